use Rattle.std.proofs.Common.{◌≡◌, ℕ, ◌^◌, ◌<◌, ◌≤◌, min, List, length, get_or, sum_by, ap, ◌∙◌, arith, rules}
use borrow.Author.Tests.{tests}
use native.Mathlib.Nat.{min-le_right}
use Rattle.std.proofs.lemmas.Iterator.{YieldsList-from_slice, YieldsList-from_map}
use Rattle.std.proofs.lemmas.Iterator.Consumers.{YieldsList-at, fits_by_from_yields_list, sum_by_from_yields_List}
use Rattle.choices.specs.Sums.{sum_to}
use Rattle.room.proofs.Rooms.{sum-listed, sum-most}
use Rattle.room.proofs.counts.RackCounts.capped.Goals as goal

-- the sum by places, and that it is small
by-place : (c : ℕ) (xs ys : List ℕ) → xs ≡ ys → length xs ≡ 32 → sum_by (min c) xs ≡ sum_to 32 (λ k. min c (get_or ys k 0))
by-place c xs ys e l = sum-listed (min c) xs ∙ ap (λ n. sum_to n (λ k. min c (get_or xs k 0))) l ∙ ap (λ z. sum_to 32 (λ k. min c (get_or z k 0))) e

small : (c : ℕ) (xs ys : List ℕ) → xs ≡ ys → length xs ≡ 32 → ((r : ℕ) → r < 32 → get_or ys r 0 ≤ 256) → sum_by (min c) xs < 2 ^ 32
small c xs ys e l few =
    omega (arith, by-place c xs ys e l, sum-most 256 32 (λ k. min c (get_or ys k 0)) (λ k h. omega (arith, few k h, min-le_right c (get_or ys k 0))))

pub sum-requires-clause-fits : goal.sum-requires-clause-fits
sum-requires-clause-fits c =
    fits_by_from_yields_list (min c.args.c) c.self.inside.counts c.map.result (2 ^ 32)
    (YieldsList-from_map _ (min c.args.c) (YieldsList-at c.map.ensures.source (YieldsList-from_slice c.self.inside.counts cc)) c.map.ensures.closure (λ x r q k. search (rules, tests)))
    (small c.args.c c.self.inside.counts c.args.self.now c.self.view_is c.self.invariant c.requires)

pub returns : goal.returns
returns c =
    sum_by_from_yields_List (min c.args.c) c.self.inside.counts c.map.result c.sum.result c.sum.ensures.ran
    (YieldsList-from_map _ (min c.args.c) (YieldsList-at c.map.ensures.source (YieldsList-from_slice c.self.inside.counts cc)) c.map.ensures.closure (λ x r q k. search (rules, tests)))
    ∙ by-place c.args.c c.self.inside.counts c.args.self.now c.self.view_is c.self.invariant
