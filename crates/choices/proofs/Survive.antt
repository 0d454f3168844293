-- With each lost node goes at most one planned block, and with each lost rack at most c.
use Rattle.std.proofs.Common.{◌≡◌, ℕ, zero, suc, ◌+◌, ◌-◌, ◌*◌, ◌/◌, ◌%◌, ◌<◌, ◌≤◌, Bool, true, cond, not, ◌&&◌, eqb, List, [], ◌∷◌, length, count_by, sym, ap, inl, inr, mul-le-mul_left, div-one, one-add, arith}
use lib.Count.{ones, ones_step}
use Rattle.std.proofs.lemmas.List.Sums.{sum_by-cons}
use Rattle.std.proofs.lemmas.Nat.{shr-shr, mod_below}
use Rattle.std.proofs.lemmas.Bool.{cases_Bool}
use Rattle.std.proofs.lemmas.Bool.Decides.{nat_tests}
use Rattle.site.specs.Words.{member}
use Rattle.site.specs.Site.{Site, Limits, node_rack}
use Rattle.choices.specs.Sums.{count_to}
use Rattle.choices.specs.Room.{space}
use Rattle.choices.specs.Choice.{Copies, has, apart, choices}
use Rattle.choices.specs.Plan.{planned}
use Rattle.choices.specs.Survive.{stand, distinct}
use Rattle.choices.proofs.Counts.{count_same, count-shift, lost-groups, apart-held}
use Rattle.choices.proofs.Parity.{rack-below, spaced-below, planned-full}

-- the set digits below any place are at most all of a word's
pub count_ones : (n w : ℕ) → count_to n (member w) ≤ ones w
unfolding count_to
count_ones zero w = omega arith
count_ones (suc n) w =
    let i : count_to n (member (w / 2)) ≤ ones (w / 2) = count_ones n (w / 2) in
    let e : count_to n (λ k. member w (suc k)) ≡ count_to n (member (w / 2)) = count_same n _ _ (λ k _. half k) in
    let d : cond (member w 0) 1 0 ≤ w % 2 = low in
    rw (count-shift n (member w)) (omega (arith, ones_step w))
  where
    half : (k : ℕ) → member w (suc k) ≡ member (w / 2) k
    half k = ap (λ x. eqb (x % 2) 1) (sym (rw one-add at (shr-shr w 1 k)))

    low : cond (member w 0) 1 0 ≤ w % 2
    low = rw div-one (let l : w % 2 < 2 = mod_below w 2 (omega arith) in grind (arith, nat_tests))

-- what neither loss meets, and what each does
parts : (a b : ℕ → Bool) (p : List ℕ) → length p ≤ count_by (λ v. not (a v) && not (b v)) p + count_by a p + count_by b p
parts a b [] = omega arith
parts a b (v ∷ p) =
    let i = parts a b p in
    let x = sum_by-cons (λ v. cond (not (a v) && not (b v)) 1 0) v p in
    let y = sum_by-cons (λ v. cond (a v) 1 0) v p in
    let z = sum_by-cons (λ v. cond (b v) 1 0) v p in
    rw (x, y, z)
    (elim (cases_Bool (a v)) [
      | inl t ↦ rw t (omega arith)
      | inr t ↦ elim (cases_Bool (b v)) [ inl u ↦ rw (t, u) (omega arith) | inr u ↦ rw (t, u) (omega arith) ]
    ])

pub losses-bounded : (s : Site) (c : ℕ) (p lost : List ℕ) (w : ℕ) → Limits s → apart p ≡ true → ((v : ℕ) → has v p ≡ true → v < length s)
    → ((r : ℕ) → count_by (λ v. eqb (node_rack s v) r) p ≤ c) → length p ≤ stand s p lost w + distinct s lost + c * ones w
losses-bounded s c p lost w limits differ below spread =
    let nodes : count_by (λ v. has v lost) p ≤ 1 * count_to (length s) (λ v. has v lost) =
    lost-groups (length s) 1 (λ v. v) (λ v. has v lost) p below (apart-held p differ) in
    let racks : count_by (λ v. member w (node_rack s v)) p ≤ c * count_to 32 (member w) =
    lost-groups 32 c (node_rack s) (member w) p (λ v t. rack-below s limits v (below v t)) spread in
    omega (arith, parts (λ v. has v lost) (λ v. member w (node_rack s v)) p, mul-le-mul_left c (count_ones 32 w))

pub plan-survives : (s : Site) (n k c : ℕ) (bs : List Copies) (start : ℕ) (lost : List ℕ) (w : ℕ) → Limits s → n ≤ space s c → k ≤ n → length bs ≡ k
    → (choices s c bs ≡ [] → ⊥) → distinct s lost + c * ones w ≤ n - k → k ≤ stand s (planned s n k c bs start) lost w
plan-survives s n k c bs start lost w limits enough l e some' few =
    let r = planned-full s n k c bs start limits enough l e some' in
    let p : List ℕ = planned s n k c bs start in
    let b = losses-bounded s c p lost w limits r.1.differ (spaced-below s c p r.1) r.1.spread in
    omega (arith, r.0)
