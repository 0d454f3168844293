-- Visits one after the other, and the count of a plan's nodes by rack, one node on.
use Rattle.std.proofs.Common.{◌≡◌, ℕ, zero, suc, ◌+◌, ◌-◌, ◌<◌, ◌≤◌, true, false, cond, not, ◌&&◌, eqb, ltb, List, [], ◌∷◌, ◌++◌, length, get_or, take, drop, min, take-append-drop, set, replicate, count_by, sym, refl, ap, ◌∙◌, ◌⊎◌, ap₂, inl, inr, arith}
use Rattle.std.proofs.Math.Nat.{min-le_right}
use Rattle.std.proofs.lemmas.Bool.{cases_eq, cases_lt, eq-eqb, ne_eqb, lt-ltb, le-ltb, and_right}
use Rattle.std.proofs.lemmas.List.Sums.{sum_by_push, count_by-le-length}
use Rattle.std.proofs.lemmas.List.{append-nil, append_assoc, take_more, map_push, length-append, length-set, get_or-set_same, get_or-set_other, get_or-replicate}
use Rattle.site.specs.Site.{Site, keeps, node_rack}
use Rattle.site.specs.declared.Node.{Node}
use Rattle.blocks.specs.Lists.{node_numbers}
use Rattle.choices.specs.Choice.{has, beside}
use Rattle.choices.specs.Plan.{free, parity}
use Rattle.choices.proofs.Parity.{parity-most}
use Rattle.room.specs.Plans.{after, Loads}

module _ (s : Site) (c : ℕ) where
  parity-none : (left : ℕ) (taken : List ℕ) → parity s c left taken [] ≡ []
  parity-none zero taken = refl
  parity-none (suc left) taken = refl

  parity-append : (left : ℕ) (taken vs ws : List ℕ)
      → parity s c left taken (vs ++ ws) ≡ parity s c left taken vs ++ parity s c (left - length (parity s c left taken vs)) (taken ++ parity s c left taken vs) ws
  parity-append zero taken vs ws = refl
  parity-append (suc left) taken [] ws =
      let e : suc left ≡ suc left - 0 = omega arith in ap₂ (λ l t. parity s c l t ws) e (sym (append-nil taken))
  parity-append (suc left) taken (v ∷ vs) ws =
      elim (free s c taken v) as (λ b.
      cond b (v ∷ parity s c left (taken ++ (v ∷ [])) (vs ++ ws)) (parity s c (suc left) taken (vs ++ ws))
      ≡ cond b (v ∷ parity s c left (taken ++ (v ∷ [])) vs) (parity s c (suc left) taken vs)
      ++ parity s c (suc left - length (cond b (v ∷ parity s c left (taken ++ (v ∷ [])) vs) (parity s c (suc left) taken vs))) (taken ++ cond b (v ∷ parity s c left (taken ++ (v ∷ [])) vs) (parity s c (suc left) taken vs)) ws) [
        | true ↦
            let p = parity s c left (taken ++ (v ∷ [])) vs in
            let e : left - length p ≡ suc left - suc (length p) = omega arith in
            ap (λ l. v ∷ l) (parity-append left (taken ++ (v ∷ [])) vs ws ∙ ap (λ l. p ++ l) (ap₂ (λ l t. parity s c l t ws) e (append_assoc taken (v ∷ []) p)))
        | false ↦ parity-append (suc left) taken vs ws
      ]

  -- a visit of some nodes, and then of others
  pub after-after : (n : ℕ) (taken vs ws : List ℕ) → after s c n (after s c n taken vs) ws ≡ after s c n taken (vs ++ ws)
  after-after n taken vs ws =
      let p = parity s c (n - length taken) taken vs in
      let e : n - length (taken ++ p) ≡ n - length taken - length p = omega (arith, length-append taken p) in
      append_assoc taken p _ ∙ ap (λ l. taken ++ l) (ap (λ l. p ++ parity s c l (taken ++ p) ws) e ∙ sym (parity-append (n - length taken) taken vs ws))

  pub after_none : (n : ℕ) (taken : List ℕ) → after s c n taken [] ≡ taken
  after_none n taken = ap (λ l. taken ++ l) (parity-none (n - length taken) taken) ∙ append-nil taken

  -- a visit of one node: where there are n already, and where there are not
  pub after-full : (n : ℕ) (taken vs : List ℕ) → n ≤ length taken → after s c n taken vs ≡ taken
  after-full n taken vs h = let e : n - length taken ≡ 0 = omega arith in rw e (append-nil taken)

  -- nor does a visit of more nodes, once there are n
  pub after-front : (n : ℕ) (taken vs ws : List ℕ) → vs ≡ take (length vs) ws → n ≤ length (after s c n taken vs) → after s c n taken vs ≡ after s c n taken ws
  after-front n taken vs ws e h =
      let rest = drop (length vs) ws in
      sym (after-full n (after s c n taken vs) rest h) ∙ (after-after n taken vs rest ∙ ap (after s c n taken) (ap (λ l. l ++ rest) e ∙ take-append-drop (length vs) ws))

  -- a plan of at most m nodes that may have n has at most m
  pub after-few : (m left : ℕ) (taken vs : List ℕ) → length taken ≤ m → length (taken ++ parity s c (min left (m - length taken)) taken vs) ≤ m
  after-few m left taken vs h =
      omega (arith, h, length-append taken (parity s c (min left (m - length taken)) taken vs), parity-most s c (min left (m - length taken)) taken vs, min-le_right left (m - length taken))

  pub after_one : (n : ℕ) (taken : List ℕ) (v : ℕ) → length taken < n → after s c n taken (v ∷ []) ≡ cond (free s c taken v) (taken ++ v ∷ []) taken
  after_one n taken v h =
      let e : n - length taken ≡ suc (n - (length taken + 1)) = omega arith in
      rw e
      (elim (free s c taken v) as (λ b. taken ++ cond b (v ∷ parity s c (n - (length taken + 1)) (taken ++ (v ∷ [])) []) [] ≡ cond b (taken ++ v ∷ []) taken)
      [ true ↦ ap (λ l. taken ++ (v ∷ l)) (parity-none (n - (length taken + 1)) (taken ++ (v ∷ []))) | false ↦ append-nil taken ])

module _ (s : Site) (taken xs : List ℕ) (l : Loads s taken xs) where
  pub load-few : (r : ℕ) → r < 32 → get_or xs r 0 ≤ length taken
  load-few r h = omega (arith, l.counts r h, count_by-le-length (λ w. eqb (node_rack s w) r) taken)

  pub load-more : (v k : ℕ) → node_rack s v ≡ k → k < 32 → Loads s (taken ++ v ∷ []) (set xs k (get_or xs k 0 + 1))
  load-more v k e h = record {
    long = length-set xs k (get_or xs k 0 + 1) ∙ l.long;
    counts = λ r b.
        let push = sum_by_push (λ w. cond (eqb (node_rack s w) r) 1 0) taken v in
        elim (cases_eq r k) [
          | inl q ↦
              let t = eq-eqb (node_rack s v) r (e ∙ sym q) in
              let n : get_or xs k 0 ≡ count_by (λ w. eqb (node_rack s w) r) taken = ap (λ j. get_or xs j 0) (sym q) ∙ l.counts r b in
              ap (λ j. get_or (set xs k (get_or xs k 0 + 1)) j 0) q ∙ (get_or-set_same xs k (get_or xs k 0 + 1) 0 (omega (arith, l.long)) ∙ (ap₂ (λ a b. a + cond b 1 0) n (sym t) ∙ sym push))
          | inr q ↦
              let t = ne_eqb (node_rack s v) r (λ z. q (sym z ∙ e)) in
              let zero_more : count_by (λ w. eqb (node_rack s w) r) taken ≡ count_by (λ w. eqb (node_rack s w) r) taken + cond (eqb (node_rack s v) r) 1 0 = rw t (omega arith) in
              get_or-set_other xs k r (get_or xs k 0 + 1) 0 q ∙ (l.counts r b ∙ (zero_more ∙ sym push))
        ];
  }

  -- a node past the last has no rack
  pub load-pass : (v : ℕ) → node_rack s v ≡ 32 → Loads s (taken ++ v ∷ []) xs
  load-pass v e = record {
    long = l.long;
    counts = λ r b.
        let t = ne_eqb (node_rack s v) r (λ z. omega arith) in
        let zero_more : count_by (λ w. eqb (node_rack s w) r) taken ≡ count_by (λ w. eqb (node_rack s w) r) taken + cond (eqb (node_rack s v) r) 1 0 = rw t (omega arith) in
        l.counts r b ∙ (zero_more ∙ sym (sum_by_push (λ w. cond (eqb (node_rack s w) r) 1 0) taken v));
  }

  -- a yes node is free where it is not taken and its rack's count is below c
  pub free_open : (c v k : ℕ) → keeps s v ≡ true → node_rack s v ≡ k → k < 32 → free s c taken v ≡ (not (has v taken) && ltb (get_or xs k 0) c)
  free_open c v k y e h =
      let n : beside s v taken ≡ get_or xs k 0 = ap (λ j. count_by (λ w. eqb (node_rack s w) j) taken) e ∙ sym (l.counts k h) in
      ap₂ (λ b j. b && (not (has v taken) && ltb j c)) y n

pub not_free : (s : Site) (c : ℕ) (taken : List ℕ) (v : ℕ) → keeps s v ≡ false → free s c taken v ≡ false
not_free s c taken v e = ap (λ b. b && (not (has v taken) && ltb (beside s v taken) c)) e

-- a visit of a node that is not marked yes
pub after-pass : (s : Site) (c n : ℕ) (taken : List ℕ) (v : ℕ) → keeps s v ≡ false → after s c n taken (v ∷ []) ≡ taken
after-pass s c n taken v e =
    elim (cases_lt (length taken) n) [
      | inl h ↦ after_one s c n taken v h ∙ ap (λ b. cond b (taken ++ v ∷ []) taken) (not_free s c taken v e)
      | inr h ↦ after-full s c n taken (v ∷ []) h
    ]

-- a visit of a yes node v of rack k
module _ (s : Site) (c n : ℕ) (taken xs : List ℕ) (l : Loads s taken xs) (v k : ℕ) (y : keeps s v ≡ true) (e : node_rack s v ≡ k) (h : k < 32)
    (few : length taken < n) where
  pub took : has v taken ≡ false → get_or xs k 0 < c → taken ++ v ∷ [] ≡ after s c n taken (v ∷ [])
  took new room =
      sym (after_one s c n taken v few
      ∙ ap (λ b. cond b (taken ++ v ∷ []) taken) (free_open s taken xs l c v k y e h ∙ ap₂ (λ a b. not a && b) new (lt-ltb (get_or xs k 0) c room)))

  pub left : (has v taken ≡ true) ⊎ (c ≤ get_or xs k 0) → taken ≡ after s c n taken (v ∷ [])
  left why =
      sym (after_one s c n taken v few
      ∙ ap (λ b. cond b (taken ++ v ∷ []) taken) (free_open s taken xs l c v k y e h
      ∙ elim why [
        | inl t ↦ ap (λ a. not a && ltb (get_or xs k 0) c) t
        | inr m ↦ and_right (not (has v taken)) _ (le-ltb (get_or xs k 0) c m)
      ]))

pub load-none : (s : Site) (xs : List ℕ) → xs ≡ replicate 32 0 → Loads s [] xs
load-none s xs e = record { long = ap length e ∙ refl; counts = λ r b. ap (λ t. get_or t r 0) e ∙ get_or-replicate 32 r 0 0 b }

-- one more of some nodes
pub numbers-more : (vs : List Node) (i : ℕ) → i < length vs
    → node_numbers (take (i + 1) vs) ≡ node_numbers (take i vs) ++ (get_or vs i (record { 0 = 0 })).0 ∷ []
numbers-more vs i l = ap node_numbers (take_more vs i (record { 0 = 0 }) l) ∙ map_push (λ v. v.0) (take i vs) (get_or vs i (record { 0 = 0 }))
