-- The blockers taken one after the other, the lowest first.
use Rattle.std.proofs.Common.{◌≡◌, ℕ, ◌^◌, ◌<◌, ◌≤◌, true, false, ap, ◌∙◌, subst, inl, inr, arith}
use lib.Bits.{bit_xor}
use lib.Count.{count_trailing_zeros, trailing_of_zero}
use Rattle.std.proofs.lemmas.Bool.{cases_Bool, both_ways}
use Rattle.site.specs.Words.{member}
use Rattle.choices.proofs.Words.{turned_left, turned-other, below-lowest}

pub none_left : (w : ℕ) → w ≤ 0 → count_trailing_zeros 32 w ≡ 32
none_left w l = let e : w ≡ 0 = omega arith in ap (count_trailing_zeros 32) e ∙ trailing_of_zero 32

-- y, the lowest of those left of b, is taken
module _ (b left y left' : ℕ) (least : y ≡ count_trailing_zeros 32 left) (own : member left y ≡ true) (further : y < count_trailing_zeros 32 left')
    (is : left' ≡ bit_xor left (2 ^ y)) where
  pub of-them : ((k : ℕ) → member left k ≡ true → member b k ≡ true) → (k : ℕ) → member left' k ≡ true → member b k ≡ true
  of-them only k m = only k (turned_left left y k own (subst (λ z. member z k ≡ true) is m))

  module _ (all : (k : ℕ) → count_trailing_zeros 32 left ≤ k → member b k ≡ true → member left k ≡ true) where
    stays : (k : ℕ) → y < k → member b k ≡ true → member left' k ≡ true
    stays k l m = ap (λ z. member z k) is ∙ turned-other left y k (λ e. omega (arith, l, e)) ∙ all k (omega (arith, l, least)) m

    pub all_left : (k : ℕ) → count_trailing_zeros 32 left' ≤ k → member b k ≡ true → member left' k ≡ true
    all_left k l = stays k (omega (arith, l, further))

    pub none_between : (k : ℕ) → y < k → k < count_trailing_zeros 32 left' → member b k ≡ false
    none_between k l h =
        elim (cases_Bool (member b k)) [
          | inl t ↦ absurd (both_ways _ (below-lowest 32 left' k h) (stays k l t))
          | inr f ↦ f
        ]
