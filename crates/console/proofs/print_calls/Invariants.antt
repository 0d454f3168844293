use Rattle.std.proofs.Common.{length}
use Rattle.text.specs.Rows.{left_of}
use Rattle.console.proofs.print_calls.Given as goal

abbrev pub decreases-loop-len : goal.decreases-loop-len
decreases-loop-len g l = length (left_of l.run.lines)
