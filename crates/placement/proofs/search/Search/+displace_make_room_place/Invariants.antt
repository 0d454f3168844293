use Rattle.std.proofs.Common.{◌≡◌, ℕ, ◌+◌, ◌*◌, ◌≤◌, true}
use lib.Count.{count_trailing_zeros}
use Rattle.site.specs.Words.{member}
use Rattle.choices.specs.Search.{unseen, Trying, Passing}
use Rattle.placement.specs.Seats.{seat_in, Told, Grounded, Own}
use Rattle.placement.proofs.search.Search.+displace_make_room_place.Given as goal

abbrev pub decreases-displace : goal.decreases-displace
decreases-displace l = 3 * unseen 32 l.seen

abbrev pub decreases-make_room : goal.decreases-make_room
decreases-make_room l = 3 * unseen 32 l.seen + 1

abbrev pub decreases-place : goal.decreases-place
decreases-place l = 3 * unseen 32 l.seen + 2

-- who is still to come is a blocker, every blocker from the lowest of them on is still to come, and those below it were tried
abbrev pub invariant-displace-loop-y : goal.invariant-displace-loop-y
invariant-displace-loop-y l =
    (goal.iterator-displace-loop-y).can_next l.y-iterator × (goal.iterator-displace-loop-y).is_finite l.y-iterator
    × (unseen 32 l.grown ≤ unseen 32 l.fn.seen) × (l.sat.at ≡ l.initial.sat.at)
    × ((k : ℕ) → member l.y-iterator.left k ≡ true → member l.initial.y-iterator.left k ≡ true)
    × ((k : ℕ) → count_trailing_zeros 32 l.y-iterator.left ≤ k → member l.initial.y-iterator.left k ≡ true → member l.y-iterator.left k ≡ true)
    × ((t : Told) → Grounded t l.self.c l.self.seats.now l.initial.sat.at l.x l.fn.seen → Own t.rack t.U l.x l.v
    → (y : ℕ) → y ≤ t.n → y ≤ count_trailing_zeros 32 l.y-iterator.left → Trying t.n t.N 32 l.self.c t.rack t.U t.a l.x l.v.node.0 l.fn.seen l.grown y)

abbrev pub invariant-make_room-loop-v : goal.invariant-make_room-loop-v
invariant-make_room-loop-v l =
    (unseen 32 l.grown ≤ unseen 32 l.fn.seen) × (l.sat.at ≡ l.initial.sat.at)
    × ((t : Told) → Grounded t l.self.c l.self.seats.now l.initial.sat.at l.x l.fn.seen
    → Passing t.n t.N 32 l.self.c t.rack t.U t.a l.x (λ k. (seat_in l.v-items k).node.0) l.fn.seen l.grown l.v-index)
