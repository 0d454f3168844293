-- Counts over a list against counts over its places, and a list's count by the values of a function.
use Rattle.std.proofs.Common.{◌≡◌, ℕ, zero, suc, ◌+◌, ◌*◌, ◌<◌, ◌≤◌, min, Bool, true, false, cond, ◌&&◌, eqb, leb, ◌⊎◌, List, [], ◌∷◌, ◌++◌, length, get_or, count_by, sym, refl, ap, ◌∙◌, ap₂, inl, inr, mul-add, arith}
use native.Mathlib.Nat.{min-le_left, min-le_right}
use Rattle.std.proofs.lemmas.List.Sums.{sum_by-cons, sum_by_push, sum_by-append}
use Rattle.std.proofs.lemmas.Bool.{cases_lt, cases_Bool, eqb-true, eq-eqb, leb-true, and_parts, or_left, or_right, both_ways}
use Rattle.choices.specs.Sums.{sum_to, count_to}
use Rattle.choices.specs.Choice.{has, every, apart}
use Rattle.choices.proofs.Finite.{sum-le, fibers, cover, count-one}
use Rattle.choices.proofs.Nodes.{has-every, has-place, has-at, apart-differ}

pub count_same : (n : ℕ) (p q : ℕ → Bool) → ((k : ℕ) → k < n → p k ≡ q k) → count_to n p ≡ count_to n q
unfolding count_to
count_same zero p q h = refl
count_same (suc n) p q h = ap₂ (λ b x. cond b 1 0 + x) (h n (omega arith)) (count_same n p q (λ k l. h k (omega arith)))

pub sum_same : (n : ℕ) (f g : ℕ → ℕ) → ((k : ℕ) → k < n → f k ≡ g k) → sum_to n f ≡ sum_to n g
unfolding sum_to
sum_same zero f g h = refl
sum_same (suc n) f g h = ap₂ (λ x y. x + y) (h n (omega arith)) (sum_same n f g (λ k l. h k (omega arith)))

pub count-shift : (n : ℕ) (p : ℕ → Bool) → count_to (suc n) p ≡ cond (p 0) 1 0 + count_to n (λ k. p (suc k))
unfolding count_to
count-shift zero p = refl
count-shift (suc n) p =
    let e : count_to (suc n) p ≡ cond (p 0) 1 0 + count_to n (λ k. p (suc k)) = count-shift n p in omega arith

pub count-all : (n : ℕ) → count_to n (λ _. true) ≡ n
unfolding count_to
count-all zero = refl
count-all (suc n) = let e : count_to n (λ _. true) ≡ n = count-all n in omega arith

-- a count over a list is that over its places
pub count-list : (p : ℕ → Bool) (vs : List ℕ) → count_to (length vs) (λ i. p (get_or vs i 0)) ≡ count_by p vs
unfolding count_to
count-list p [] = refl
count-list p (v ∷ vs) =
    count-shift (length vs) (λ i. p (get_or (v ∷ vs) i 0)) ∙ ap (λ x. cond (p v) 1 0 + x) (count-list p vs) ∙ sym (sum_by-cons (λ x. cond (p x) 1 0) v vs)

module _ (p : ℕ → Bool) where
  pub count_by-yes : (v : ℕ) (vs : List ℕ) → p v ≡ true → count_by p (v ∷ vs) ≡ suc (count_by p vs)
  count_by-yes v vs t = sum_by-cons (λ x. cond (p x) 1 0) v vs ∙ rw t (omega arith)

  pub count_by-no : (v : ℕ) (vs : List ℕ) → p v ≡ false → count_by p (v ∷ vs) ≡ count_by p vs
  count_by-no v vs t = sum_by-cons (λ x. cond (p x) 1 0) v vs ∙ rw t (omega arith)

  pub count_by-push : (vs : List ℕ) (v : ℕ) → count_by p (vs ++ v ∷ []) ≡ count_by p vs + cond (p v) 1 0
  count_by-push vs v = sum_by_push (λ x. cond (p x) 1 0) vs v

  pub count_by-append : (vs ws : List ℕ) → count_by p (vs ++ ws) ≡ count_by p vs + count_by p ws
  count_by-append vs ws = sum_by-append (λ x. cond (p x) 1 0) vs ws

  -- nothing passes, or something does
  pub count_by-some : (vs : List ℕ) → (count_by p vs ≡ 0) ⊎ ((v : ℕ) × (has v vs ≡ true) × (p v ≡ true))
  count_by-some [] = inl refl
  count_by-some (v ∷ vs) =
      elim (cases_Bool (p v)) [
        | inl t ↦ inr (v, or_left (eqb v v) _ (eq-eqb v v refl), t)
        | inr t ↦
            elim (count_by-some vs) [
              | inl z ↦ inl (count_by-no v vs t ∙ z)
              | inr w ↦ inr (w.0, or_right (eqb w.0 v) _ w.1, w.2)
            ]
      ]

-- groups are held where the group of each member is
pub groups-held : (group : ℕ → ℕ) (c : ℕ) (vs : List ℕ) → every (λ v. leb (count_by (λ w. eqb (group w) (group v)) vs) c) vs ≡ true
    → (r : ℕ) → count_by (λ w. eqb (group w) r) vs ≤ c
groups-held group c vs h r =
    elim (count_by-some (λ w. eqb (group w) r) vs) [
      | inl z ↦ omega arith
      | inr w ↦
          let t = leb-true _ c (has-every (λ v. leb (count_by (λ w. eqb (group w) (group v)) vs) c) w.0 vs h w.1) in
          rw (eqb-true (group w.0) r w.2) at t
    ]

pub count_by-le : (p q : ℕ → Bool) → ((v : ℕ) → p v ≡ true → q v ≡ true) → (vs : List ℕ) → count_by p vs ≤ count_by q vs
count_by-le p q h [] = omega arith
count_by-le p q h (v ∷ vs) =
    let i = count_by-le p q h vs in
    elim (cases_Bool (p v)) [
      | inl t ↦ omega (arith, count_by-yes p v vs t, count_by-yes q v vs (h v t))
      | inr t ↦ omega (arith, count_by-no p v vs t, sum_by-cons (λ x. cond (q x) 1 0) v vs)
    ]

pub count_by-all : (vs : List ℕ) → count_by (λ _. true) vs ≡ length vs
count_by-all vs = sym (count-list (λ _. true) vs) ∙ count-all (length vs)

-- Groups of nodes: a node is a group that holds one block, a rack one that holds c.

-- a list's count is the sum of its counts by group
pub list-fibers : (m : ℕ) (group : ℕ → ℕ) (q : ℕ → Bool) (p : List ℕ) → ((v : ℕ) → has v p ≡ true → group v < m)
    → sum_to m (λ r. count_by (λ v. q v && eqb (group v) r) p) ≡ count_by q p
list-fibers m group q p h =
    sum_same m _ _ (λ r _. sym (count-list (λ v. q v && eqb (group v) r) p))
    ∙ fibers (length p) m (λ k. q (get_or p k 0)) (λ k. group (get_or p k 0)) (λ k l _. h (get_or p k 0) (has-at p k l))
    ∙ count-list q p

-- where each node that is kept is in p or in a group that p fills, p has all that the groups can hold
pub packed : (n m c : ℕ) (keep : ℕ → Bool) (group : ℕ → ℕ) (p : List ℕ) → ((v : ℕ) → has v p ≡ true → v < n) → ((v : ℕ) → has v p ≡ true → group v < m)
    → ((v : ℕ) → v < n → keep v ≡ true → (has v p ≡ true) ⊎ (c ≤ count_by (λ w. eqb (group w) (group v)) p))
    → sum_to m (λ r. min c (count_to n (λ v. keep v && eqb (group v) r))) ≤ length p
packed n m c keep group p below grouped full =
    let each : sum_to m (λ r. min c (count_to n (λ v. keep v && eqb (group v) r))) ≤ sum_to m (λ r. count_by (λ v. eqb (group v) r) p) = sum-le m _ _ at in
    omega (arith, list-fibers m group (λ _. true) p grouped, count_by-all p)
  where
    at : (r : ℕ) → r < m → min c (count_to n (λ v. keep v && eqb (group v) r)) ≤ count_by (λ v. eqb (group v) r) p
    at r _ =
        let x : ℕ = count_to n (λ v. keep v && eqb (group v) r) in
        elim (cases_lt (count_by (λ v. eqb (group v) r) p) c) [
          | inr l ↦ omega (arith, min-le_left c x)
          | inl l ↦
              let k : x ≤ count_to (length p) (λ i. eqb (group (get_or p i 0)) r) =
              cover (length p) n (λ i. eqb (group (get_or p i 0)) r) (λ v. keep v && eqb (group v) r) (λ i. get_or p i 0)
              (λ i m _. below (get_or p i 0) (has-at p i m))
              (λ v m t.
              let a = and_parts (keep v) _ t in
              let e = eqb-true (group v) r a.1 in
              elim (full v m a.0) [
                | inl u ↦ let o = has-place v p u in (o.0, o.1, eq-eqb (group (get_or p o.0 0)) r (ap group o.2 ∙ e), o.2)
                | inr u ↦ let g : c ≤ count_by (λ w. eqb (group w) r) p = rw e at u in absurd (omega arith)
              ]) in
              omega (arith, min-le_right c x, count-list (λ v. eqb (group v) r) p)
        ]

sum-times : (m c : ℕ) (p : ℕ → Bool) → sum_to m (λ r. cond (p r) c 0) ≡ c * count_to m p
unfolding sum_to count_to
sum-times zero c p = omega arith
sum-times (suc m) c p =
    let i : sum_to m (λ r. cond (p r) c 0) ≡ c * count_to m p = sum-times m c p in
    elim (cases_Bool (p m)) [
      | inl t ↦ rw t (omega (arith, mul-add c 1 (count_to m p)))
      | inr t ↦ rw t (omega (arith, mul-add c 0 (count_to m p)))
    ]

-- with each lost group go at most as many as a group holds
pub lost-groups : (m c : ℕ) (group : ℕ → ℕ) (lost : ℕ → Bool) (p : List ℕ) → ((v : ℕ) → has v p ≡ true → group v < m)
    → ((r : ℕ) → count_by (λ v. eqb (group v) r) p ≤ c) → count_by (λ v. lost (group v)) p ≤ c * count_to m lost
lost-groups m c group lost p below held =
    let each : sum_to m (λ r. count_by (λ v. lost (group v) && eqb (group v) r) p) ≤ sum_to m (λ r. cond (lost r) c 0) = sum-le m _ _ at in
    omega (arith, list-fibers m group (λ v. lost (group v)) p below, sum-times m c lost)
  where
    at : (r : ℕ) → r < m → count_by (λ v. lost (group v) && eqb (group v) r) p ≤ cond (lost r) c 0
    at r _ =
        elim (cases_Bool (lost r)) [
          | inl t ↦
              rw t (omega (
                arith,
                held r,
                count_by-le (λ v. lost (group v) && eqb (group v) r) (λ v. eqb (group v) r) (λ v u. (and_parts (lost (group v)) _ u).1) p,
              ))
          | inr t ↦
              elim (count_by-some (λ v. lost (group v) && eqb (group v) r) p) [
                | inl z ↦ rw t (omega arith)
                | inr w ↦
                    let a = and_parts (lost (group w.0)) _ w.2 in
                    absurd (both_ways (lost r) t (rw (eqb-true (group w.0) r a.1) at a.0))
              ]
        ]

-- nodes that are all different are groups that hold one each
pub apart-held : (p : List ℕ) → apart p ≡ true → (r : ℕ) → count_by (λ v. eqb v r) p ≤ 1
apart-held p h r =
    omega (
      arith,
      count-list (λ v. eqb v r) p,
      count-one (length p) (λ i. eqb (get_or p i 0) r)
          (λ j k a b s t. apart-differ p h j k a b (eqb-true (get_or p j 0) r s ∙ sym (eqb-true (get_or p k 0) r t))),
    )
