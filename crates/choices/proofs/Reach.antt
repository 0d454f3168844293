-- Sets of blocks against the nodes that they can use.
-- Bound: in each rack lie at most c placed blocks of a set, and at most as many as it can use nodes there; so no more of
-- its blocks are placed than its reach.
-- Crowded: let one block of a set have no place, and no node of the set be open. In a rack with a free node of the set, c of its blocks lie;
-- in any other, its blocks hold all of its nodes. So its reach is at most the number of its placed blocks.
-- Closed: let all blocks but one be placed, and a set be crowded. By the bound it has that block, and its others fill its reach rack by rack;
-- so it has the block that holds a node of its own, and every block of a rack where one of its nodes is free.
use Rattle.std.proofs.Common.{◌≡◌, ℕ, ◌<◌, ◌≤◌, min, Bool, true, false, ◌&&◌, eqb, ◌⊎◌, Decides, sym, refl, ap, ◌∙◌, inl, inr, le_trans, arith}
use native.Mathlib.Nat.{le-min, min-le_left, min-le_right}
use Rattle.std.proofs.lemmas.Bool.{cases_Bool, cases_lt, eqb-true, eq-eqb, and_parts, and_from, both_ways}
use Rattle.std.proofs.lemmas.Bool.Decides.{Decides-below_or}
use Rattle.choices.specs.Sums.{sum_to, count_to, any_to}
use Rattle.choices.specs.Search.{Sized, Placed, useful, reach_of, Crowded}
use Rattle.choices.proofs.Finite.{sum-le, sum-pinch, fibers, inject, inject-lt, cover, count-le, count-lt, count-but-one, count-mono, each_or}

-- any_to, as a fact
pub any-decides : (n : ℕ) (p : ℕ → Bool) → Decides (any_to n p) ((k : ℕ) × (k < n) × (p k ≡ true))
unfolding any_to
any-decides n p = Decides-below_or p (λ k. p k ≡ true) (λ n. any_to n p) (λ k. (λ e. e, λ e. e)) refl (λ _. refl) n

-- a set reaches no less where it can use no less, and what it uses lies in the same racks
pub reach-le : (n m M N R c : ℕ) (place rack : ℕ → ℕ) (U V : ℕ → ℕ → Bool) (S T : ℕ → Bool)
    → ((v : ℕ) → any_to n (λ i. S i && U i v) ≡ true → (v < N) × (any_to m (λ i. T i && V i v) ≡ true) × (place v ≡ rack v))
    → reach_of n M R c place U S ≤ reach_of m N R c rack V T
reach-le n m M N R c place rack U V S T h =
    sum-le R (λ r. min c (count_to M (useful n place U S r))) (λ r. min c (count_to N (useful m rack V T r)))
    (λ r _.
    le-min (min-le_left c _)
    (le_trans (min-le_right c _)
    (inject M N (useful n place U S r) (useful m rack V T r) (λ v. v)
    (λ v _ t.
    let t' = and_parts (eqb (place v) r) _ t in
    let k = h v t'.1 in
    (k.0, and_from _ _ (eq-eqb _ _ (sym k.2 ∙ eqb-true _ _ t'.0)) k.1))
    (λ _ _ _ _ _ _ e. e))))

-- a crowded set stays crowded where more blocks come after it, and where its blocks can use no more
pub crowded-more : (n m M N R c : ℕ) (place rack : ℕ → ℕ) (U V : ℕ → ℕ → Bool) (S : ℕ → Bool) → n ≤ m
    → ((i v : ℕ) → i < n → V i v ≡ true → (v < M) × (U i v ≡ true) × (rack v ≡ place v)) → ((i : ℕ) → n ≤ i → i < m → S i ≡ false)
    → Crowded n M R c place U S → Crowded m N R c rack V S
crowded-more n m M N R c place rack U V S l same past t =
    omega (arith, t, count-mono n m S l, reach-le m n N M R c rack place V U S S uses)
  where
    uses : (v : ℕ) → any_to m (λ i. S i && V i v) ≡ true → (v < M) × (any_to n (λ i. S i && U i v) ≡ true) × (rack v ≡ place v)
    uses v e =
        let h = (any-decides m (λ i. S i && V i v)).0 e in
        let p = and_parts (S h.0) _ h.2 in
        elim (cases_lt h.0 n) [
          | inl k ↦
              let q = same h.0 v k p.1 in
              (q.0, (any-decides n (λ i. S i && U i v)).1 (h.0, k, and_from _ _ p.0 q.1), q.2)
          | inr k ↦ absurd (both_ways _ (past h.0 k h.1) p.0)
        ]

module _ (n N R c : ℕ) (rack : ℕ → ℕ) (U : ℕ → ℕ → Bool) (sized : Sized N R rack U)
    (D : ℕ → Bool) (a : ℕ → ℕ) (placed : Placed n c rack U D a) where
  -- the blocks of S that are placed in rack r
  abbrev at : (ℕ → Bool) → ℕ → ℕ → Bool
  at S r x = (S x && D x) && eqb (rack (a x)) r

  abbrev pub share : (ℕ → Bool) → ℕ → ℕ
  share S r = count_to n (at S r)

  use-of : (S : ℕ → Bool) (x v : ℕ) → x < n → S x ≡ true → U x v ≡ true → any_to n (λ k. S k && U k v) ≡ true
  use-of S x v l s u = (any-decides n (λ k. S k && U k v)).1 (x, l, and_from _ _ s u)

  abbrev Parts : (ℕ → Bool) → ℕ → ℕ → Type 0
  Parts S r x = (S x ≡ true) × (D x ≡ true) × (rack (a x) ≡ r)

  parts : (S : ℕ → Bool) (r x : ℕ) → at S r x ≡ true → Parts S r x
  parts S r x t =
      let t' = and_parts (S x && D x) _ t in
      let t'' = and_parts (S x) _ t'.0 in (t''.0, t''.1, eqb-true _ _ t'.1)

  into : (S : ℕ → Bool) (r x : ℕ) → x < n → at S r x ≡ true → (a x < N) × (useful n rack U S r (a x) ≡ true)
  into S r x l t =
      let h = parts S r x t in
      let u = placed.usable x l h.1 in
      (sized.node x (a x) u, and_from _ _ (eq-eqb _ _ h.2) (use-of S x (a x) l h.0 u))

  one : (S : ℕ → Bool) (r x y : ℕ) → x < n → y < n → at S r x ≡ true → at S r y ≡ true → a x ≡ a y → x ≡ y
  one S r x y l m s t e = placed.distinct x y l m (parts S r x s).1 (parts S r y t).1 e

  share-le : (S : ℕ → Bool) (r : ℕ) → share S r ≤ min c (count_to N (useful n rack U S r))
  share-le S r =
      le-min
      (le_trans (count-le n (at S r) (λ x. D x && eqb (rack (a x)) r) (λ k l t. let h = parts S r k t in and_from _ _ h.1 (eq-eqb _ _ h.2)))
      (placed.spread r))
      (inject n N (at S r) (useful n rack U S r) a (into S r) (one S r))

  shares : (S : ℕ → Bool) → sum_to R (share S) ≡ count_to n (λ x. S x && D x)
  shares S =
      fibers n R (λ x. S x && D x) (λ x. rack (a x))
      (λ k l t. sized.racked k (a k) (placed.usable k l (and_parts (S k) _ t).1))

  placed-le : (S : ℕ → Bool) → count_to n (λ x. S x && D x) ≤ reach_of n N R c rack U S
  placed-le S = omega (arith, shares S, sum-le R (share S) _ (λ r _. share-le S r))

  -- a set of placed blocks is not larger than its reach
  pub placed-reach : (S : ℕ → Bool) → ((x : ℕ) → x < n → S x ≡ true → D x ≡ true) → count_to n S ≤ reach_of n N R c rack U S
  placed-reach S sub =
      omega (arith, placed-le S, count-le n S (λ x. S x && D x) (λ k l t. and_from _ _ t (sub k l t)))

  -- v is held by a block of S, or the blocks of S fill its rack
  abbrev pub Covered : (ℕ → Bool) → ℕ → Type 0
  Covered S v = ((x : ℕ) × (x < n) × (S x ≡ true) × (D x ≡ true) × (a x ≡ v)) ⊎ (c ≤ share S (rack v))

  abbrev Held : (ℕ → Bool) → ℕ → ℕ → Type 0
  Held V r v = useful n rack U V r v ≡ true → (x : ℕ) × (x < n) × (at V r x ≡ true) × (a x ≡ v)

  -- a set with a block that is not placed, and with no node open to it, is crowded
  pub crowded : (V : ℕ → Bool) (b : ℕ) → b < n → V b ≡ true → D b ≡ false
      → ((v : ℕ) → v < N → any_to n (λ k. V k && U k v) ≡ true → Covered V v) → reach_of n N R c rack U V < count_to n V
  crowded V b l vb db closed =
      omega (
        arith,
        sum-le R _ (share V) (λ r _. full r),
        shares V,
        count-lt n (λ x. V x && D x) V (λ k _ t. (and_parts (V k) _ t).0) b l (simp (vb, db)) vb,
      )
    where
      held : (r v : ℕ) → v < N → Held V r v ⊎ (c ≤ share V r)
      held r v k =
          elim (cases_Bool (useful n rack U V r v)) [
            | inr t ↦ inl (λ s. absurd (both_ways _ t s))
            | inl t ↦
                let t' = and_parts (eqb (rack v) r) _ t in
                let e : rack v ≡ r = eqb-true _ _ t'.0 in
                elim (closed v k t'.1) [
                  | inl h ↦ inl (λ _. (h.0, h.1, and_from _ _ (and_from _ _ h.2 h.3) (eq-eqb _ _ (ap rack h.4 ∙ e)), h.4))
                  | inr h ↦ inr (rw e at h)
                ]
          ]

      full : (r : ℕ) → min c (count_to N (useful n rack U V r)) ≤ share V r
      full r =
          elim (each_or N (Held V r) (c ≤ share V r) (held r)) [
            | inl h ↦
                le_trans (min-le_right c _) (cover n N (at V r) (useful n rack U V r) a (λ k l t. (into V r k l t).0) h)
            | inr h ↦ le_trans (min-le_left c _) h
          ]

  module _ (b : ℕ) (rest : (x : ℕ) → x < n → (x ≡ b → ⊥) → D x ≡ true) (T : ℕ → Bool) (small : reach_of n N R c rack U T < count_to n T) where
    -- a crowded set has the one block that is not placed
    pub has-out : T b ≡ true
    has-out =
        elim (cases_Bool (T b)) [
          | inl t ↦ t
          | inr t ↦
              absurd (omega (arith, placed-reach T (λ x l s. rest x l (λ e. both_ways (T b) t (rw e at s)))))
        ]

    filled : (r : ℕ) → r < R → min c (count_to N (useful n rack U T r)) ≤ share T r
    filled =
        sum-pinch R (share T) _ (λ r _. share-le T r)
        (omega (arith, shares T, count-but-one n T (λ x. T x && D x) b (λ k l e t. and_from _ _ t (rest k l e))))

    -- a crowded set that can use v, and does not hold it, has every block of v's rack
    pub spreads : (x v y : ℕ) → x < n → T x ≡ true → U x v ≡ true → ((z : ℕ) → z < n → T z ≡ true → D z ≡ true → a z ≡ v → ⊥)
        → y < n → D y ≡ true → rack (a y) ≡ rack v → T y ≡ true
    spreads x v y l t u free m d e =
        elim (cases_Bool (T y)) [
          | inl s ↦ s
          | inr s ↦
              let r : ℕ = rack v in
              let room : share T (rack v) < count_to n (λ x. D x && eqb (rack (a x)) (rack v)) =
              count-lt n (at T (rack v)) (λ x. D x && eqb (rack (a x)) (rack v))
              (λ k _ t. let h = parts T (rack v) k t in and_from _ _ h.1 (eq-eqb _ _ h.2)) y m (simp s) (and_from _ _ d (eq-eqb _ _ e)) in
              let more : share T (rack v) < count_to N (useful n rack U T (rack v)) =
              inject-lt n N (at T (rack v)) (useful n rack U T (rack v)) a (into T (rack v)) (one T (rack v)) v (sized.node x v u)
              (and_from _ _ (eq-eqb _ _ refl) (use-of T x v l t u))
              (λ k l s e. let h = parts T (rack v) k s in free k l h.0 h.1 e) in
              absurd (omega (arith, filled (rack v) (sized.racked x v u), placed.spread (rack v)))
        ]

    -- and the block that holds v
    pub follows : (x v y : ℕ) → x < n → T x ≡ true → U x v ≡ true → y < n → D y ≡ true → a y ≡ v → T y ≡ true
    follows x v y l t u m d e =
        elim (cases_Bool (T y)) [
          | inl s ↦ s
          | inr s ↦
              spreads x v y l t u
              (λ z k p q f. let same : z ≡ y = placed.distinct z y k m q d (f ∙ sym e) in both_ways (T y) s (rw same at p)) m d (ap rack e)
        ]
