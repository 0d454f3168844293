-- The parity nodes never run out. If the visit of all nodes took too few, each yes node that is not planned lies in a rack with c
-- planned blocks; then the plan has all that the site has space for.
use Rattle.std.proofs.Common.{◌≡◌, ℕ, zero, suc, ◌-◌, ◌<◌, ◌≤◌, true, false, not, eqb, ◌⊎◌, List, [], ◌∷◌, ◌++◌, length, count_by, refl, ap, ◌∙◌, inl, inr, arith}
use Rattle.std.specs.List.{range_with_len, AllByRecursion}
use Rattle.std.proofs.lemmas.List.{append-nil, append_assoc, length-append}
use Rattle.std.proofs.lemmas.Bool.{cases_Bool, cases_lt, eqb-true, ltb-true, ltb-false, and_parts, and_cases, or_cases, or_left, not-true, not-false, both_ways}
use Rattle.site.specs.Site.{Site, Limits, keeps, node_rack}
use Rattle.choices.specs.Room.{room, space}
use Rattle.choices.specs.Choice.{Copies, Choice, has, beside, choices}
use Rattle.choices.specs.Plan.{round, free, parity, first_of, planned}
use Rattle.choices.specs.Survive.{Spaced}
use Rattle.choices.proofs.Nodes.{every-push, apart-push, has-every, has_append_left, has_append_right, has-counting}
use Rattle.choices.proofs.Counts.{count_by-push, count_by-append, packed}
use Rattle.choices.proofs.Exact.{choice-held, choice-keeps, choice-apart}
use Rattle.choices.proofs.Head.{first-choice}

-- a yes node is a node of the site, and its rack is one of 32
pub keeps_below : (s : Site) (v : ℕ) → keeps s v ≡ true → v < length s
keeps_below [] v h = absurd (both_ways false refl h)
keeps_below (p ∷ s) zero h = omega arith
keeps_below (p ∷ s) (suc v) h = let l = keeps_below s v h in omega arith

rack-within : (s : Site) (v : ℕ) → AllByRecursion (λ p. p.0.0 < 32) s → v < length s → node_rack s v < 32
rack-within [] v h l = absurd (omega arith)
rack-within (p ∷ s) zero h l = h.0
rack-within (p ∷ s) (suc v) h l = rack-within s v h.1 (omega arith)

pub rack-below : (s : Site) → Limits s → (v : ℕ) → v < length s → node_rack s v < 32
rack-below s h v l = rack-within s v h.racked l

-- the visit comes to every node of the site
pub has-round : (s : Site) (start v : ℕ) → v < length s → has v (round s start) ≡ true
has-round s start v l =
    elim (cases_lt v start) [
      | inl m ↦ has_append_right v (range_with_len start (length s - start)) (range_with_len 0 start) (has-counting v 0 start (omega arith) (omega arith))
      | inr m ↦ has_append_left v (range_with_len start (length s - start)) (range_with_len 0 start) (has-counting v start (length s - start) m (omega arith))
    ]

pub spaced-choice : (s : Site) (c : ℕ) (bs : List Copies) (vs : List ℕ) → Choice s c bs vs → Spaced s c vs
spaced-choice s c bs vs h =
    record { differ = choice-apart s c bs vs h; kept = choice-keeps s c bs vs h; spread = choice-held s c bs vs h }

pub spaced-below : (s : Site) (c : ℕ) (p : List ℕ) → Spaced s c p → (v : ℕ) → has v p ≡ true → v < length s
spaced-below s c p h v t = keeps_below s v (has-every (keeps s) v p h.kept t)

module _ (s : Site) (c : ℕ) where
  free-parts : (taken : List ℕ) (v : ℕ) → free s c taken v ≡ true → (keeps s v ≡ true) × (has v taken ≡ false) × (beside s v taken < c)
  free-parts taken v t =
      let a = and_parts (keeps s v) _ t in
      let b = and_parts (not (has v taken)) _ a.1 in
      (a.0, not-true (has v taken) b.0, ltb-true (beside s v taken) c b.1)

  pub spaced-push : (taken : List ℕ) (v : ℕ) → Spaced s c taken → free s c taken v ≡ true → Spaced s c (taken ++ v ∷ [])
  spaced-push taken v h t =
      let f = free-parts taken v t in
      record {
        differ = apart-push taken v h.differ f.1;
        kept = every-push (keeps s) taken v h.kept f.0;
        spread = λ r. at r f.2;
      }
    where
      at : (r : ℕ) → beside s v taken < c → count_by (λ w. eqb (node_rack s w) r) (taken ++ v ∷ []) ≤ c
      at r l =
          rw (count_by-push (λ w. eqb (node_rack s w) r) taken v)
          (elim (cases_Bool (eqb (node_rack s v) r)) [
            | inl e ↦ let m : count_by (λ w. eqb (node_rack s w) r) taken < c = rw (eqb-true (node_rack s v) r e) at l in rw e (omega arith)
            | inr e ↦ rw e (omega (arith, h.spread r))
          ])

  pub parity-spaced : (left : ℕ) (taken vs : List ℕ) → Spaced s c taken → Spaced s c (taken ++ parity s c left taken vs)
  parity-spaced zero taken vs h = rw append-nil h
  parity-spaced (suc left) taken [] h = rw append-nil h
  parity-spaced (suc left) taken (v ∷ vs) h =
      elim (cases_Bool (free s c taken v)) [
        | inl t ↦
            rw t (rw append_assoc at (parity-spaced left (taken ++ v ∷ []) vs (spaced-push taken v h t)))
        | inr t ↦ rw t (parity-spaced (suc left) taken vs h)
      ]

  pub parity-most : (left : ℕ) (taken vs : List ℕ) → length (parity s c left taken vs) ≤ left
  parity-most zero taken vs = omega arith
  parity-most (suc left) taken [] = omega arith
  parity-most (suc left) taken (v ∷ vs) =
      elim (cases_Bool (free s c taken v)) [
        | inl t ↦ rw t (let i = parity-most left (taken ++ v ∷ []) vs in omega arith)
        | inr t ↦ rw t (parity-most (suc left) taken vs)
      ]

  -- the visit takes as many as it may, or each yes node that it came to is in the plan or in a rack that the plan fills
  pub parity-rest : (left : ℕ) (taken vs : List ℕ)
      → (length (parity s c left taken vs) ≡ left)
      ⊎ ((v : ℕ) → has v vs ≡ true → keeps s v ≡ true → (has v (taken ++ parity s c left taken vs) ≡ true) ⊎ (c ≤ beside s v (taken ++ parity s c left taken vs)))
  parity-rest zero taken vs = inl refl
  parity-rest (suc left) taken [] = inr (λ v h _. absurd (both_ways false refl h))
  parity-rest (suc left) taken (v ∷ vs) =
      elim (cases_Bool (free s c taken v)) [
        | inl t ↦
            rw t
            (elim (parity-rest left (taken ++ v ∷ []) vs) [
              | inl e ↦ inl (ap suc e)
              | inr g ↦ inr (λ u h k.
                  let X : List ℕ = parity s c left (taken ++ v ∷ []) vs in
                  elim (or_cases (eqb u v) _ h) [
                    | inl q ↦ inl (has_append_right u taken (v ∷ X) (or_left (eqb u v) _ q))
                    | inr q ↦ rw append_assoc at (g u q k)
                  ])
            ])
        | inr t ↦
            rw t
            (elim (parity-rest (suc left) taken vs) [
              | inl e ↦ inl e
              | inr g ↦ inr (λ u h k.
                  elim (or_cases (eqb u v) _ h) [
                    | inl q ↦ rw (eqb-true u v q) (missed (parity s c (suc left) taken vs) (rw (eqb-true u v q) at k) t)
                    | inr q ↦ g u q k
                  ])
            ])
      ]
    where
      missed : (X : List ℕ) → keeps s v ≡ true → free s c taken v ≡ false → (has v (taken ++ X) ≡ true) ⊎ (c ≤ beside s v (taken ++ X))
      missed X k t =
          elim (and_cases (keeps s v) _ t) [
            | inl z ↦ absurd (both_ways (keeps s v) z k)
            | inr z ↦
                elim (and_cases (not (has v taken)) _ z) [
                  | inl y ↦ inl (has_append_left v taken X (not-false (has v taken) y))
                  | inr y ↦
                      inr (rw (count_by-append (λ w. eqb (node_rack s w) (node_rack s v)) taken X) (omega (arith, ltb-false (beside s v taken) c y)))
                ]
          ]

  -- nodes beside which no yes node of the site is free are as many as there is space for
  pub spaced-full : (p : List ℕ) → Limits s → Spaced s c p
      → ((v : ℕ) → v < length s → keeps s v ≡ true → (has v p ≡ true) ⊎ (c ≤ beside s v p)) → space s c ≤ length p
  unfolding room
  spaced-full p limits h full =
      let below = spaced-below s c p h in
      packed (length s) 32 c (keeps s) (node_rack s) p below (λ v t. rack-below s limits v (below v t)) full

  pub parity-full : (n : ℕ) (taken : List ℕ) (start : ℕ) → Limits s → n ≤ space s c → length taken ≤ n → Spaced s c taken
      → length (parity s c (n - length taken) taken (round s start)) ≡ n - length taken
  parity-full n taken start limits room' l h =
      let X : List ℕ = parity s c (n - length taken) taken (round s start) in
      elim (parity-rest (n - length taken) taken (round s start)) [
        | inl e ↦ e
        | inr g ↦
            let all : space s c ≤ length (taken ++ X) =
            spaced-full (taken ++ X) limits (parity-spaced (n - length taken) taken (round s start) h)
            (λ v m k. g v (has-round s start v m) k) in
            let most : length X ≤ n - length taken = parity-most (n - length taken) taken (round s start) in
            omega (arith, length-append taken X)
      ]

module _ (s : Site) (n k c : ℕ) (bs : List Copies) where
  pub choice-full : (vs : List ℕ) (start : ℕ) → Limits s → n ≤ space s c → k ≤ n → length bs ≡ k → Choice s c bs vs
      → (length (parity s c (n - k) vs (round s start)) ≡ n - k) × Spaced s c (vs ++ parity s c (n - k) vs (round s start))
  choice-full vs start limits enough l e h =
      let o = spaced-choice s c bs vs h in
      let long : length vs ≡ k = h.long ∙ e in
      (rw long at (parity-full s c n vs start limits enough (rw long l) o), parity-spaced s c (n - k) vs (round s start) o)

  pub planned-full : (start : ℕ) → Limits s → n ≤ space s c → k ≤ n → length bs ≡ k → (choices s c bs ≡ [] → ⊥)
      → (length (planned s n k c bs start) ≡ n) × Spaced s c (planned s n k c bs start)
  planned-full start limits enough l e some' =
      let vs : List ℕ = first_of (choices s c bs) in
      let h = first-choice s c bs some' in
      let r = choice-full vs start limits enough l e h in
      (length-append vs (parity s c (n - k) vs (round s start)) ∙ omega (arith, r.0, h.long), r.1)
