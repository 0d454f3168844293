use Rattle.std.proofs.Common.{◌≡◌, take}
use Rattle.text.specs.Texts.{whole}
use Rattle.blocks.specs.Blocks.{numbers}
use Rattle.capi.proofs.plans.write_nodes.Given as goal

abbrev pub invariant-loop-i : goal.invariant-loop-i
invariant-loop-i l = l.out ≡ whole l.initial.out (take l.i (numbers l.nodes))
