use Rattle.std.proofs.Common.{ℕ, List}
use Rattle.site.specs.Site.{Site}
use Rattle.choices.specs.Choice.{Copies}
use Rattle.placement.specs.Firsts.{Standing}
use Rattle.placement.proofs.Narrowed.{InVain}
use Rattle.placement.proofs.first.Settling.settle.Given as goal

abbrev pub invariant-loop-v : goal.invariant-loop-v
invariant-loop-v l =
    (s : Site) (c : ℕ) (ds : List Copies) → Standing s c ds l.initial.self → Standing s c ds l.self × InVain s c ds l.i l.v-index
