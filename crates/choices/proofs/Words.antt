-- A word as a set: its count of set digits, and one more member.
use Rattle.std.proofs.Common.{◌≡◌, ℕ, zero, suc, ◌+◌, ◌/◌, ◌%◌, ◌^◌, ◌<◌, ◌≤◌, Bool, true, false, cond, not, ◌||◌, eqb, sym, refl, ap, ◌∙◌, ap₂, inl, inr, one-mul, div-one, add-one, one-add, arith}
use native.Mathlib.Nat.{div-eq_of_lt, zero-div}
use lib.Arith.{lt-one}
use borrow.Author.Numbers.{trailing_lt}
use lib.Count.{ones, ones_step, count_trailing_zeros, trailing_of_zero, under}
use lib.Bits.{bit_or, bit_xor, or_shr, or_mod, xor_shr, xor_mod, xor_lt, shifted_even, shifted_half}
use Rattle.std.proofs.lemmas.Nat.{shr-shr, shr_split, shr_below, mod_below, pow_below}
use Rattle.std.proofs.lemmas.Bool.{cases_eq, cases_lt, both_ways, eq-eqb, ne_eqb, not-true, not_from_true, not_from_false, or_parts, or_right}
use Rattle.choices.specs.Search.{unseen}
use Rattle.choices.proofs.Finite.{count-lt, count_same}
use Rattle.std.proofs.lemmas.Bool.Decides.{nat_tests}
use Rattle.choices.specs.Sums.{count_to}
use Rattle.site.specs.Words.{member}

count-shift : (n : ℕ) (p : ℕ → Bool) → count_to (suc n) p ≡ cond (p 0) 1 0 + count_to n (λ k. p (suc k))
unfolding count_to
count-shift zero p = refl
count-shift (suc n) p =
    let e : count_to (suc n) p ≡ cond (p 0) 1 0 + count_to n (λ k. p (suc k)) = count-shift n p in omega arith

member-half : (w k : ℕ) → member w (suc k) ≡ member (w / 2) k
member-half w k = ap (λ x. eqb (x % 2) 1) (sym (rw one-add at (shr-shr w 1 k)))

low_digit : (x : ℕ) → x % 2 ≡ cond (eqb (x % 2) 1) 1 0
low_digit x = let l : x % 2 < 2 = mod_below x 2 (omega arith) in grind (arith, nat_tests)

pub ones-count : (n w : ℕ) → w < 2 ^ n → ones w ≡ count_to n (member w)
unfolding count_to ones
ones-count zero w h = let z : w ≡ 0 = lt-one h in rw z refl
ones-count (suc n) w h =
    let ih : ones (w / 2) ≡ count_to n (member (w / 2)) = ones-count n (w / 2) (shr_below w n 1 (rw add-one h)) in
    let e : count_to n (λ k. member w (suc k)) ≡ count_to n (member (w / 2)) = count_same n _ _ (λ k _. member-half w k) in
    let d : w % 2 ≡ cond (member w 0) 1 0 = low_digit w ∙ ap (λ x. cond (eqb (x % 2) 1) 1 0) (sym (div-one w)) in
    ones_step w ∙ ap₂ (λ x y. x + y) d (ih ∙ sym e) ∙ sym (count-shift n (member w))

-- digit k of 2 ^ j
digit-pow : (j k : ℕ) → 2 ^ j / 2 ^ k % 2 ≡ cond (eqb k j) 1 0
digit-pow zero zero = refl
digit-pow zero (suc k) = let l : 1 < 2 ^ suc k = pow_below 0 (suc k) (omega arith) in simp (div-eq_of_lt l) (grind (arith, nat_tests))
digit-pow (suc j) zero = rw div-one (ap (λ x. x % 2) (sym (one-mul (2 ^ suc j))) ∙ shifted_even 1 j ∙ grind (arith, nat_tests))
digit-pow (suc j) (suc k) =
    let h : 2 ^ suc j / 2 ≡ 2 ^ j = ap (λ x. x / 2) (sym (one-mul (2 ^ suc j))) ∙ shifted_half 1 j ∙ one-mul (2 ^ j) in
    let q : 2 ^ suc j / 2 ^ suc k ≡ 2 ^ j / 2 ^ k = sym (rw one-add at (shr-shr (2 ^ suc j) 1 k)) ∙ ap (λ x. x / 2 ^ k) h in
    ap (λ x. x % 2) q ∙ digit-pow j k ∙ grind (arith, nat_tests)

-- one more member
pub member-or : (w j k : ℕ) → member (bit_or w (2 ^ j)) k ≡ (member w k || eqb k j)
member-or w j k =
    let x : ℕ = w / 2 ^ k in
    let y : ℕ = 2 ^ j / 2 ^ k in
    let l : w / 2 ^ k % 2 < 2 = mod_below (w / 2 ^ k) 2 (omega arith) in
    let e : bit_or w (2 ^ j) / 2 ^ k % 2 ≡ bit_or (w / 2 ^ k % 2) (2 ^ j / 2 ^ k % 2) = ap (λ x. x % 2) (or_shr w (2 ^ j) k) ∙ or_mod (w / 2 ^ k) (2 ^ j / 2 ^ k) 1 in
    ap (λ x. eqb x 1) (e ∙ ap (λ y. bit_or (w / 2 ^ k % 2) y) (digit-pow j k)) ∙ bit (w / 2 ^ k % 2) l (eqb k j)
  where
    bit : (x : ℕ) → x < 2 → (b : Bool) → eqb (bit_or x (cond b 1 0)) 1 ≡ (eqb x 1 || b)
    bit zero h true = refl
    bit zero h false = refl
    bit (suc zero) h true = refl
    bit (suc zero) h false = refl
    bit (suc (suc x)) h b = absurd (omega arith)

-- one member turned
member-xor : (w j k : ℕ) → member (bit_xor w (2 ^ j)) k ≡ cond (eqb k j) (not (member w k)) (member w k)
member-xor w j k =
    let l : w / 2 ^ k % 2 < 2 = mod_below (w / 2 ^ k) 2 (omega arith) in
    let e : bit_xor w (2 ^ j) / 2 ^ k % 2 ≡ bit_xor (w / 2 ^ k % 2) (2 ^ j / 2 ^ k % 2) = ap (λ x. x % 2) (xor_shr w (2 ^ j) k) ∙ xor_mod (w / 2 ^ k) (2 ^ j / 2 ^ k) 1 in
    ap (λ x. eqb x 1) (e ∙ ap (λ y. bit_xor (w / 2 ^ k % 2) y) (digit-pow j k)) ∙ bit (w / 2 ^ k % 2) l (eqb k j)
  where
    bit : (x : ℕ) → x < 2 → (b : Bool) → eqb (bit_xor x (cond b 1 0)) 1 ≡ cond b (not (eqb x 1)) (eqb x 1)
    bit zero h true = refl
    bit zero h false = refl
    bit (suc zero) h true = refl
    bit (suc zero) h false = refl
    bit (suc (suc x)) h b = absurd (omega arith)

pub turned-own : (w j : ℕ) → member w j ≡ true → member (bit_xor w (2 ^ j)) j ≡ false
turned-own w j h = member-xor w j j ∙ rw (eq-eqb j j refl) (not_from_true _ h)

pub turned-other : (w j k : ℕ) → (k ≡ j → ⊥) → member (bit_xor w (2 ^ j)) k ≡ member w k
turned-other w j k ne = member-xor w j k ∙ rw (ne_eqb k j ne) refl

-- where it was one, no other comes or goes
pub turned_left : (w j k : ℕ) → member w j ≡ true → member (bit_xor w (2 ^ j)) k ≡ true → member w k ≡ true
turned_left w j k h t = elim (cases_eq k j) [ inl e ↦ rw e h | inr e ↦ sym (turned-other w j k e) ∙ t ]

-- and one fewer is left
pub turned-fewer : (n w j : ℕ) → j < n → member w j ≡ true → count_to n (member (bit_xor w (2 ^ j))) < count_to n (member w)
turned-fewer n w j l h =
    count-lt n (member (bit_xor w (2 ^ j))) (member w)
    (λ k _ t. turned_left w j k h t)
    j l (turned-own w j h) h

-- none is below the lowest member, and that is one
pub below-lowest : (d w k : ℕ) → k < count_trailing_zeros d w → member w k ≡ false
unfolding count_trailing_zeros
below-lowest zero w k l = absurd (omega arith)
below-lowest (suc d) w k l = go (λ j h. below-lowest d (w / 2) j h) (w % 2) refl k l
  where
    go : ((j : ℕ) → j < count_trailing_zeros d (w / 2) → member (w / 2) j ≡ false)
        → (r : ℕ) → w % 2 ≡ r → (k : ℕ) → k < under r (count_trailing_zeros d (w / 2)) → member w k ≡ false
    go ih zero e zero h = ap (λ x. eqb (x % 2) 1) (div-one w) ∙ ap (λ x. eqb x 1) e
    go ih zero e (suc k) h = member-half w k ∙ ih k (omega arith)
    go ih (suc r) e k h = absurd (omega arith)

pub lowest-in : (d w : ℕ) → 0 < w → w < 2 ^ d → member w (count_trailing_zeros d w) ≡ true
unfolding count_trailing_zeros
lowest-in zero w p l = absurd (omega arith)
lowest-in (suc d) w p l = go (λ h. lowest-in d (w / 2) h (shr_below w d 1 (rw add-one l))) (w % 2) refl
  where
    go : (0 < w / 2 → member (w / 2) (count_trailing_zeros d (w / 2)) ≡ true)
        → (r : ℕ) → w % 2 ≡ r → member w (under r (count_trailing_zeros d (w / 2))) ≡ true
    go ih zero e = member-half w (count_trailing_zeros d (w / 2)) ∙ ih (omega arith)
    go ih (suc zero) e = ap (λ x. eqb (x % 2) 1) (div-one w) ∙ ap (λ x. eqb x 1) e
    go ih (suc (suc r)) e = absurd (omega (arith, mod_below w 2 (omega arith)))

-- without its lowest member, a set's lowest lies further on
pub next-lowest : (w : ℕ) → 0 < w → w < 2 ^ 32 → count_trailing_zeros 32 w < count_trailing_zeros 32 (bit_xor w (2 ^ count_trailing_zeros 32 w))
next-lowest w p h = go (count_trailing_zeros 32 w) (trailing_lt 32 w p h) (lowest-in 32 w p h) (λ k. below-lowest 32 w k)
  where
    go : (y : ℕ) → y < 32 → member w y ≡ true → ((k : ℕ) → k < y → member w k ≡ false) → y < count_trailing_zeros 32 (bit_xor w (2 ^ y))
    go y l own below =
        elim (cases_lt y (count_trailing_zeros 32 (bit_xor w (2 ^ y)))) [
          | inl r ↦ r
          | inr r ↦ elim (cases_eq (bit_xor w (2 ^ y)) 0) [
            | inl e ↦ omega (arith, l, r, ap (count_trailing_zeros 32) e ∙ trailing_of_zero 32)
            | inr e ↦
                let m : member (bit_xor w (2 ^ y)) (count_trailing_zeros 32 (bit_xor w (2 ^ y))) ≡ true =
                lowest-in 32 (bit_xor w (2 ^ y)) (omega (arith, e)) (xor_lt 32 w (2 ^ y) h (pow_below y 32 l)) in
                elim (cases_eq (count_trailing_zeros 32 (bit_xor w (2 ^ y))) y) [
                  | inl q ↦ absurd (both_ways _ (ap (member (bit_xor w (2 ^ y))) q ∙ turned-own w y own) m)
                  | inr q ↦ absurd (both_ways _ (below _ (omega (arith, r, q))) (sym (turned-other w y _ q) ∙ m))
                ]
          ]
        ]

pub none_in : (k : ℕ) → member 0 k ≡ false
none_in k = ap (λ n. eqb (n % 2) 1) (zero-div (2 ^ k))

-- a new member leaves fewer outside
pub unseen-mark : (n w y : ℕ) → y < n → member w y ≡ false → unseen n (bit_or w (2 ^ y)) < unseen n w
unfolding unseen
unseen-mark n w y l h =
    count-lt n (λ k. not (member (bit_or w (2 ^ y)) k)) (λ k. not (member w k))
    (λ k _ t. let p = or_parts (member w k) _ (not-true _ (rw member-or at t)) in not_from_false _ p.0)
    y l (rw member-or (not_from_true _ (or_right (member w y) _ (eq-eqb y y refl)))) (not_from_false _ h)

-- the set of x alone
pub member-one : (x k : ℕ) → member (bit_or 0 (2 ^ x)) k ≡ eqb k x
member-one x k = member-or 0 x k ∙ ap (λ b. b || eqb k x) (none_in k)

pub pow-le : (j k : ℕ) → j ≤ k → 2 ^ j ≤ 2 ^ k
pow-le j k h = elim (cases_eq j k) [ inl e ↦ rw e (omega arith) | inr e ↦ omega (arith, pow_below j k (omega arith)) ]

-- no number past a word's width is in it
pub member-past : (n w k : ℕ) → w < 2 ^ n → n ≤ k → member w k ≡ false
member-past n w k l h =
    let small : w < 2 ^ k = omega (arith, pow-le n k h) in simp (div-eq_of_lt small)

-- two words with the same members are equal
pub member-same : (n u w : ℕ) → u < 2 ^ n → w < 2 ^ n → ((k : ℕ) → k < n → member u k ≡ member w k) → u ≡ w
member-same zero u w l m h = let a : u ≡ 0 = lt-one l in let b : w ≡ 0 = lt-one m in a ∙ sym b
member-same (suc n) u w l m h =
    let ih : u / 2 ≡ w / 2 =
    member-same n (u / 2) (w / 2) (shr_below u n 1 (rw add-one l)) (shr_below w n 1 (rw add-one m))
    (λ k j. sym (member-half u k) ∙ h (suc k) (omega arith) ∙ member-half w k) in
    let low : member u 0 ≡ member w 0 = h 0 (omega arith) in
    let d : u % 2 ≡ w % 2 =
    low_digit u ∙ ap (λ x. cond (eqb (x % 2) 1) 1 0) (sym (div-one u)) ∙ ap (λ b. cond b 1 0) low
    ∙ ap (λ x. cond (eqb (x % 2) 1) 1 0) (div-one w) ∙ sym (low_digit w) in
    omega (arith, shr_split u 1, shr_split w 1)
