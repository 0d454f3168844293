use Rattle.std.proofs.Common.{take}
use Rattle.text.specs.Texts.{Wrote}
use Rattle.text.proofs.writer.Writer.put_bytes.Given as goal

abbrev pub invariant-loop-b : goal.invariant-loop-b
invariant-loop-b l = Wrote l.initial.self l.self (take l.b-index l.bytes)
