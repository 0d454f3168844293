use Rattle.std.proofs.Common.{◌≡◌, ℕ, ◌<◌, None, get_or, replicate, refl, sym, ap, ◌∙◌, inl, inr}
use Rattle.std.proofs.lemmas.List.{get_or-replicate, get_or_past}
use Rattle.std.proofs.lemmas.Bool.{cases_lt}
use Rattle.site.specs.Words.{member}
use Rattle.choices.proofs.Words.{none_in}
use Rattle.placement.specs.Seats.{seat_of, lies_in, has_noted}
use Rattle.placement.proofs.sitting.Sitting.new.Goals as goal

nobody : (k : ℕ) → seat_of (replicate 17 None) k ≡ None
nobody k = elim (cases_lt k 17) [ inl l ↦ get_or-replicate 17 k None None l | inr l ↦ get_or_past (replicate 17 None) k None l ]

empty : (u r k : ℕ) → u ≡ 0 → r < 32 → member (get_or (replicate 32 u) r 0) k ≡ lies_in r (seat_of (replicate 17 None) k)
empty u r k e l = ap (λ w. member w k) (get_or-replicate 32 r u 0 l ∙ e) ∙ none_in k ∙ sym (ap (lies_in r) (nobody k))

pub invariant_of-result : goal.invariant_of-result
invariant_of-result c = record { places = refl; full = refl; told = λ r k l. empty c.from.result r k c.from.ensures l; shelves = refl; known = λ k. ap (has_noted (replicate 8 c.from-2.result)) (nobody k) }
