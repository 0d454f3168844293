use Rattle.std.proofs.Common.{◌≡◌, length, take}
use Rattle.blocks.specs.Blocks.{numbers}
use Rattle.sheet.proofs.nodes.as_nodes.Given as goal

abbrev pub invariant-loop-i : goal.invariant-loop-i
invariant-loop-i g l = (length l.nodes ≡ length l.words) × (take l.i (numbers l.nodes) ≡ take l.i l.words)
