use Rattle.std.proofs.Common.{◌≡◌, ℕ, ◌*◌, ◌%◌, ◌^◌, ◌<◌, true, cond, sym, ap, ◌∙◌, inl, inr, one-mul, mod-eq_of_lt}
use lib.Bits.{bit_xor}
use Rattle.std.proofs.lemmas.Bool.{cases_lt, both_ways}
use Rattle.std.proofs.lemmas.Nat.{pow_below}
use Rattle.site.specs.Words.{member}
use Rattle.site.proofs.Words.{no-bit}
use Rattle.site.proofs.set.NumberSet.without.Goals as goal

inside : (w i : ℕ) → w < 2 ^ 32 → member w i ≡ true → i < 32
inside w i h m = elim (cases_lt i 32) [ inl l ↦ l | inr l ↦ absurd (both_ways _ (no-bit w i h l) m) ]

turned : (w v i : ℕ) → w < 2 ^ 32 → w ≡ v → member v i ≡ true → bit_xor w (1 * 2 ^ i % 2 ^ 32) ≡ cond (member v i) (bit_xor v (2 ^ i)) v
turned w v i h e m =
    let l : i < 32 = inside w i h (ap (λ z. member z i) e ∙ m) in
    ap (bit_xor w) (ap (λ z. z % 2 ^ 32) (one-mul _) ∙ mod-eq_of_lt (pow_below i 32 l)) ∙ ap (λ z. bit_xor z (2 ^ i)) e
    ∙ ap (λ b. cond b (bit_xor v (2 ^ i)) v) (sym m)

pub overflow_shl-i : goal.overflow_shl-i
overflow_shl-i c =
    inside c.self.inside.word c.args.i c.self.invariant (ap (λ w. member w c.args.i) c.self.view_is ∙ sym c.has.ensures ∙ c.if-has.true)

pub returns-then-has : goal.returns-then-has
returns-then-has c = turned c.self.inside.word c.args.self c.args.i c.self.invariant c.self.view_is (sym c.has.ensures ∙ c.if-has.true)
