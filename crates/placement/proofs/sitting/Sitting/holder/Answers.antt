use Rattle.std.proofs.Common.{◌≡◌, ℕ, true, false, Some, None, Option, sym, ap, ◌∙◌, subst, inl, inr}
use Rattle.std.proofs.lemmas.Bool.{cases_eq, both_ways, eq-eqb, false≢true}
use Rattle.site.specs.Words.{member}
use Rattle.choices.proofs.Words.{turned-other, turned_left}
use Rattle.placement.specs.declared.seat.Seat.{Seat}
use Rattle.placement.specs.Seats.{node_of, lies_at, lies_in, node_at}
use Rattle.placement.proofs.sitting.Sitting.holder.Goals as goal

not-at : (u r : ℕ) (o : Option Seat) → lies_in r o ≡ true → lies_at u o ≡ false → node_of o ≡ u → ⊥
not-at u r None i e h = false≢true i
not-at u r (Some v) i e h = both_ways _ e (eq-eqb v.node.0 u h)

pub loop-y-preserved : goal.loop-y-preserved
loop-y-preserved c =
    let t = c.in-Some.ensures.steps in (
      tt,
      tt,
      λ k m. c.loop-y.invariant.2 k (turned_left _ _ k t.1 (subst (λ w. member w k ≡ true) t.4 m)),
      λ k m.
          elim (c.loop-y.invariant.3 k m) [
            | inl s ↦ elim (cases_eq k c.in-Some.y) [
              | inl e ↦ inr (λ h.
                  not-at c.args.v.node.0 _ _ (c.loop-y.invariant.2 _ t.1) (sym c.is_at.ensures ∙ c.if-is_at.false) (ap (node_at c.args.self.now.at) (sym e) ∙ h))
              | inr e ↦ inl (subst (λ w. member w k ≡ true) (sym t.4) (turned-other _ _ k e ∙ s))
            ]
            | inr f ↦ inr f
          ],
    )
