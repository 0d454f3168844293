use Rattle.std.proofs.Common.{ℕ, List}
use Rattle.site.specs.Site.{Site}
use Rattle.choices.specs.Choice.{Copies}
use Rattle.placement.specs.Firsts.{Standing, Narrows}
use Rattle.placement.proofs.first.Settling.first.Given as goal

abbrev pub invariant-loop-i : goal.invariant-loop-i
invariant-loop-i l = (s : Site) (c : ℕ) (bs : List Copies) → Standing s c bs l.initial.self → Narrows s c bs l.i l.self
