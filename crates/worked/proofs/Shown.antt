-- The worked examples, by computation. That every tight set has each block of a named one follows from the choices that are left
-- without that block, which are computed too.
use Rattle.std.proofs.Common.{[], ◌∷◌, refl, arith}
use lib.Count.{ones}
use Rattle.site.specs.Site.{Limits}
use Rattle.site.specs.Maps.{regular, target}
use Rattle.site.specs.Limits.{regular-limits, target-limits}
use Rattle.choices.specs.Sums.{sum_to, count_to, any_to}
use Rattle.choices.specs.Room.{room}
use Rattle.choices.proofs.Least.{least-by-test}
use Rattle.store.specs.Stripes.{set_up}
use Rattle.store.specs.Ledger.{ledger}
use Rattle.store.specs.Promise.{together}
use Rattle.worked.specs.Worked.{Worked, four_by_two, two_in, crowded}

six-by-two-limits : Limits (target 15 (regular 6 2))
six-by-two-limits = target-limits 15 (regular 6 2) (regular-limits 6 2 (omega arith))

three-by-three-limits : Limits (regular 3 3)
three-by-three-limits = regular-limits 3 3 (omega arith)

four-by-two-limits : Limits four_by_two
four-by-two-limits = target-limits 15 (regular 4 2) (regular-limits 4 2 (omega arith))

pub worked : Worked
unfolding sum_to count_to any_to room ones
worked = record {
  four_racks = (refl, refl);
  five_in_four = refl;
  two_targets = (refl, refl);
  two_targets_short = (refl, refl);
  moved_aside = refl;
  outside_the_targets =
      let s = target 15 (regular 6 2) in
      (refl, least-by-test s 1 (together s (ledger s (set_up 4 3 1 ∷ [])) (8 ∷ 10 ∷ [])) 1 six-by-two-limits refl);
  three_for_two_nodes =
      let s = regular 3 3 in
      (refl, least-by-test s 2 (together s (ledger s crowded) (0 ∷ 3 ∷ [])) 14 three-by-three-limits refl);
  three_for_two_racks =
      (refl, least-by-test four_by_two 1 (together four_by_two (ledger four_by_two two_in) (0 ∷ 3 ∷ 2 ∷ [])) 7 four-by-two-limits refl);
  one_in_each_rack = refl;
  lost_beside_the_plan = refl;
  lost_twice_over = refl;
}
