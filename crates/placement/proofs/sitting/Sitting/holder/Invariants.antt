use Rattle.std.proofs.Common.{◌≡◌, ℕ, true, ◌⊎◌}
use Rattle.site.specs.Words.{member}
use Rattle.placement.specs.Seats.{node_at, shares}
use Rattle.placement.proofs.sitting.Sitting.holder.Given as goal

-- who is still to come is of the rack, and who is not does not hold the node
abbrev pub invariant-loop-y : goal.invariant-loop-y
invariant-loop-y l =
    (goal.iterator-loop-y).can_next l.y-iterator × (goal.iterator-loop-y).is_finite l.y-iterator
    × ((k : ℕ) → member l.y-iterator.left k ≡ true → shares l.self.at l.v k ≡ true)
    × ((k : ℕ) → shares l.self.at l.v k ≡ true → (member l.y-iterator.left k ≡ true) ⊎ (node_at l.self.at k ≡ l.v.node.0 → ⊥))
