-- The tally of yes nodes by rack, one node on; and the space as a sum over the tally.
use Rattle.std.proofs.Common.{◌≡◌, ℕ, zero, suc, ◌+◌, ◌*◌, ◌<◌, ◌≤◌, min, Bool, true, false, ◌&&◌, eqb, List, [], ◌∷◌, length, sum_by, get_or, set, replicate, sym, refl, ap, ◌∙◌, ap₂, inl, inr, arith}
use Rattle.std.proofs.lemmas.Bool.{cases_eq, eq-eqb, ne_eqb}
use Rattle.std.proofs.lemmas.List.{length-set, get_or-set_same, get_or-set_other, get_or-replicate}
use Rattle.site.specs.Site.{Site, keeps, node_rack}
use Rattle.choices.specs.Sums.{sum_to, count_to}
use Rattle.choices.specs.Room.{room, space}
use Rattle.choices.proofs.Finite.{sum_same, count_yes, count_no, count-max}
use Rattle.std.proofs.lemmas.List.Sums.{sum_by-cons}
use Rattle.room.specs.Rooms.{yes_in, Tallied}

-- the first of the numbers below a bound, and those after it
sum-shift : (n : ℕ) (f : ℕ → ℕ) → sum_to (suc n) f ≡ f 0 + sum_to n (λ k. f (suc k))
unfolding sum_to
sum-shift zero f = refl
sum-shift (suc n) f = let e : sum_to (suc n) f ≡ f 0 + sum_to n (λ k. f (suc k)) = sum-shift n f in omega arith

-- a sum over a list is one over its places
pub sum-listed : (f : ℕ → ℕ) (xs : List ℕ) → sum_by f xs ≡ sum_to (length xs) (λ k. f (get_or xs k 0))
unfolding sum_to
sum-listed f [] = refl
sum-listed f (x ∷ xs) =
    sum_by-cons f x xs ∙ ap (λ n. f x + n) (sum-listed f xs) ∙ sym (sum-shift (length xs) (λ k. f (get_or (x ∷ xs) k 0)))

pub sum-most : (m n : ℕ) (f : ℕ → ℕ) → ((k : ℕ) → k < n → f k ≤ m) → sum_to n f ≤ m * n
unfolding sum_to
sum-most m zero f h = omega arith
sum-most m (suc n) f h =
    let i : sum_to n f ≤ m * n = sum-most m n f (λ k l. h k (omega (arith, l))) in
    omega (arith, i, h n (omega arith))

count-zero : (p : ℕ → Bool) → 0 ≡ count_to 0 p
unfolding count_to
count-zero p = refl

module _ (s : Site) (v r : ℕ) where
  yes-at : (k : ℕ) → keeps s v ≡ true → node_rack s v ≡ k → yes_in s r v ≡ eqb k r
  yes-at k y e = ap₂ (λ b n. b && eqb n r) y e

  yes-not : keeps s v ≡ false → yes_in s r v ≡ false
  yes-not e = ap (λ b. b && eqb (node_rack s v) r) e

module _ (s : Site) (n : ℕ) (xs : List ℕ) (t : Tallied s n xs) where
  pub tally-few : (r : ℕ) → r < 32 → get_or xs r 0 ≤ n
  tally-few r h = omega (arith, t.counts r h, count-max n (yes_in s r))

  pub tally-yes : (k : ℕ) → keeps s n ≡ true → node_rack s n ≡ k → k < 32 → Tallied s (n + 1) (set xs k (get_or xs k 0 + 1))
  tally-yes k y e h = record {
    long = length-set xs k (get_or xs k 0 + 1) ∙ t.long;
    counts = λ r l.
        elim (cases_eq r k) [
          | inl q ↦
              let t' : yes_in s r n ≡ true = yes-at s n r k y e ∙ eq-eqb k r (sym q) in
              let c : get_or xs k 0 ≡ count_to n (yes_in s r) = ap (λ j. get_or xs j 0) (sym q) ∙ t.counts r l in
              ap (λ j. get_or (set xs k (get_or xs k 0 + 1)) j 0) q ∙ (get_or-set_same xs k (get_or xs k 0 + 1) 0 (omega (arith, t.long)) ∙ (ap (λ j. j + 1) c ∙ sym (count_yes n (yes_in s r) t')))
          | inr q ↦
              let t' : yes_in s r n ≡ false = yes-at s n r k y e ∙ ne_eqb k r (λ z. q (sym z)) in
              get_or-set_other xs k r (get_or xs k 0 + 1) 0 q ∙ (t.counts r l ∙ sym (count_no n (yes_in s r) t'))
        ];
  }

  pub tally-pass : keeps s n ≡ false → Tallied s (n + 1) xs
  tally-pass e = record { long = t.long; counts = λ r l. t.counts r l ∙ sym (count_no n (yes_in s r) (yes-not s n r e)) }

pub tally-none : (s : Site) (xs : List ℕ) → xs ≡ replicate 32 0 → Tallied s 0 xs
tally-none s xs e = record {
  long = ap length e ∙ refl;
  counts = λ r l. ap (λ t. get_or t r 0) e ∙ (get_or-replicate 32 r 0 0 l ∙ count-zero (yes_in s r));
}

pub space-by : (s : Site) (c : ℕ) (xs : List ℕ) → Tallied s (length s) xs → sum_to 32 (λ k. min c (get_or xs k 0)) ≡ space s c
unfolding room
space-by s c xs t = sum_same 32 _ _ (λ k l. ap (λ j. min c j) (t.counts k l))
