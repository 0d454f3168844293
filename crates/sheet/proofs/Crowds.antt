-- The least tight set has the lowest tight word.
use Rattle.std.proofs.Common.{◌≡◌, ℕ, zero, suc, ◌+◌, ◌/◌, ◌%◌, ◌^◌, ◌<◌, ◌≤◌, Bool, true, eqb, List, length, sym, ap, ◌∙◌, inl, inr, div-one, add-one, one-add, arith}
use lib.Arith.{lt-one}
use lib.Count.{ones}
use Rattle.std.proofs.lemmas.Nat.{shr-shr, shr_split, shr_below, mod_below}
use Rattle.std.proofs.lemmas.Bool.{cases_Bool, cases_eq, lt-ltb, ltb-true, eq-eqb, eqb-true, cond-true, cond-false, both_ways}
use Rattle.site.specs.Site.{Site}
use Rattle.site.specs.Words.{member}
use Rattle.choices.specs.Choice.{Copies}
use Rattle.choices.specs.Tight.{reach, Tight, LeastTight}
use Rattle.sheet.specs.Results.{first_from, is_tight, crowd}

member-half : (w k : ℕ) → member w (suc k) ≡ member (w / 2) k
member-half w k = ap (λ x. eqb (x % 2) 1) (sym (rw one-add at (shr-shr w 1 k)))

-- the lowest digit of a set that is part of another
low-le : (u w : ℕ) → (member u 0 ≡ true → member w 0 ≡ true) → u % 2 ≤ w % 2
low-le u w h =
    elim (cases_eq (u % 2) 1) [
      | inl e ↦ omega (arith, eqb-true (w / 1 % 2) 1 (h (eq-eqb (u / 1 % 2) 1 (ap (λ x. x % 2) (div-one u) ∙ e))), ap (λ x. x % 2) (div-one w))
      | inr e ↦ omega (arith, mod_below u 2 (omega arith))
    ]

-- a set that is part of another has no higher word
pub part-le : (n u w : ℕ) → u < 2 ^ n → w < 2 ^ n → ((k : ℕ) → member u k ≡ true → member w k ≡ true) → u ≤ w
part-le zero u w l m h = let a : u ≡ 0 = lt-one l in omega arith
part-le (suc n) u w l m h =
    let ih : u / 2 ≤ w / 2 =
    part-le n (u / 2) (w / 2) (shr_below u n 1 (rw add-one l)) (shr_below w n 1 (rw add-one m))
    (λ k t. sym (member-half w k) ∙ h (suc k) (member-half u k ∙ t)) in
    omega (arith, shr_split u 1, shr_split w 1, low-le u w (h 0))

pub first-is : (p : ℕ → Bool) (i n w : ℕ) → i ≤ w → w < i + n → p w ≡ true → ((u : ℕ) → u < w → p u ≡ true → ⊥) → first_from p i n ≡ w
unfolding first_from
first-is p i zero w low high t none = absurd (omega arith)
first-is p i (suc n) w low high t none =
    elim (cases_Bool (p i)) [
      | inl on ↦ cond-true (p i) i (first_from p (i + 1) n) on
          ∙ elim (cases_eq i w) [ inl e ↦ e | inr ne ↦ absurd (none i (omega arith) on) ]
      | inr off ↦ cond-false (p i) i (first_from p (i + 1) n) off
          ∙ first-is p (i + 1) n w
          (elim (cases_eq i w) [ inl e ↦ absurd (both_ways (p i) off (ap p e ∙ t)) | inr ne ↦ omega arith ])
          (omega arith) t none
    ]

pub crowd-least : (s : Site) (c : ℕ) (bs : List Copies) (w : ℕ) → LeastTight s c bs w → crowd s c bs ≡ w
unfolding crowd
crowd-least s c bs w h =
    let n = length bs in
    let within = h.tight.within in
    first-is (is_tight s c bs) 0 (2 ^ n) w (omega arith) (omega (arith, within)) (lt-ltb (reach s c bs w) (ones w) h.tight.short)
    (λ u lower on.
    let t : Tight s c bs u = record { within = omega (arith, within); short = ltb-true (reach s c bs u) (ones u) on } in
    omega (arith, part-le n w u within t.within (h.least u t)))
