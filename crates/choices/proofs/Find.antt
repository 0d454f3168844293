-- The search itself, depth first and swapping as it goes, as a proof: a place for the block that has none, or the least crowded set.
-- With it, of any blocks, either all can be placed or some set of them is crowded.
use Rattle.std.proofs.Common.{◌≡◌, ℕ, zero, suc, ◌+◌, ◌^◌, ◌<◌, ◌≤◌, Bool, true, cond, not, ◌&&◌, eqb, ◌⊎◌, refl, subst, inl, inr, add-one, arith}
use lib.Bits.{bit_or}
use Rattle.std.proofs.lemmas.Bool.{cases_eq, cases_Bool, cases_lt, eqb-true, eq-eqb, ne_eqb, and_parts, and_from, both_ways, not-true, not_from_false}
use Rattle.std.proofs.lemmas.Nat.{pow_below}
use Rattle.site.specs.Words.{member}
use Rattle.choices.specs.Sums.{any_to}
use Rattle.choices.specs.Search.{Sized, Crowded, Complete, but, Partial, Moved, Free, Held, in_rack, Open, Shut, Way, Subset, unseen, Failed, Blocked, Ready, Trying, Passing}
use Rattle.choices.proofs.Finite.{count-le, count-max}
use Rattle.choices.proofs.Words.{member-past}
use Rattle.choices.proofs.Reach.{any-decides, crowded-more}
use Rattle.choices.proofs.Moves.{but-yes, but-no, partial-next}
use Rattle.choices.proofs.Steps as steps

-- what grew leaves no more unseen
pub unseen-le : (n w w' : ℕ) → Subset w (member w') → unseen n w' ≤ unseen n w
unfolding unseen
unseen-le n w w' sub =
    count-le n (λ k. not (member w' k)) (λ k. not (member w k))
    (λ k _ t.
    elim (cases_Bool (member w k)) [
      | inl m ↦ absurd (both_ways _ (not-true _ t) (sub k m))
      | inr m ↦ not_from_false _ m
    ])

-- x is put at v
unfoldable put : (ℕ → ℕ) → ℕ → ℕ → ℕ → ℕ
put a x v k = cond (eqb k x) v (a k)

put-moved : (a : ℕ → ℕ) (x v : ℕ) → Moved a x v (put a x v)
unfolding put
put-moved a x v = record { here = simp (eq-eqb x x refl); there = λ k ne. simp (ne_eqb k x ne) }

module _ (n c : ℕ) (rack a : ℕ → ℕ) (x v : ℕ) where
  held-or-free : Held n a x v ⊎ Free n a x v
  held-or-free =
      let p : ℕ → Bool = λ k. but x k && eqb (a k) v in
      let d = any-decides n (λ k. but x k && eqb (a k) v) in
      elim (cases_Bool (any_to n (λ k. but x k && eqb (a k) v))) [
        | inl t ↦ let h = d.0 t in let h' = and_parts (but x h.0) _ h.2 in inl (h.0, h.1, but-no x h.0 h'.0, eqb-true _ _ h'.1)
        | inr t ↦ inr (λ k l ne e. both_ways _ t (d.1 (k, l, and_from _ _ (but-yes x k ne) (eq-eqb _ _ e))))
      ]

  open-or-shut : Open n c rack a x v ⊎ Shut n c rack a x v
  open-or-shut =
      elim held-or-free [
        | inl h ↦ inr (inl h)
        | inr f ↦ elim (cases_lt (in_rack n rack a x (rack v)) c) [ inl l ↦ inl (f, l) | inr l ↦ inr (inr (f, l)) ]
      ]

  way-or-not : (y : ℕ) → y < n → (y ≡ x → ⊥) → Way n rack a x y v ⊎ (Way n rack a x y v → ⊥)
  way-or-not y l ne =
      elim (cases_eq (a y) v) [
        | inl e ↦ inl (inl e)
        | inr e ↦
            elim held-or-free [
              | inl h ↦ inr (λ w. elim w [ inl g ↦ e g | inr g ↦ g.0 h.0 h.1 h.2 h.3 ])
              | inr f ↦
                  elim (cases_eq (rack (a y)) (rack v)) [
                    | inl g ↦ inl (inr (f, g))
                    | inr g ↦ inr (λ w. elim w [ inl k ↦ e k | inr k ↦ g k.1 ])
                  ]
            ]
      ]

module _ (n N R c : ℕ) (rack : ℕ → ℕ) (U : ℕ → ℕ → Bool) where
  -- a place for every block
  abbrev pub Some-complete : Type 0
  Some-complete = (a : ℕ → ℕ) × Complete n c rack U a

  abbrev Searched : (ℕ → ℕ) → ℕ → ℕ → Type 0
  Searched a x w = Some-complete ⊎ ((w' : ℕ) × Failed n N R c rack U a x w w')

  -- with at most m blocks unseen
  abbrev Searches : ℕ → Type 0
  Searches m = (a : ℕ → ℕ) (x w : ℕ) → Ready n N R c rack U a x w → unseen n w < m → Searched a x w

  module _ (m : ℕ) (place : Searches m) (a : ℕ → ℕ) (x w₀ : ℕ) (ready : Ready n N R c rack U a x w₀) (few : unseen n w₀ < suc m) where
    module _ (v w₁ : ℕ) (grown : Subset w₀ (member w₁)) (ready₁ : Ready n N R c rack U a x w₁) (u : U x v ≡ true) where
      -- y gives way to x, if it can
      give : (w y : ℕ) → y < n → Trying n N R c rack U a x v w₁ w y → Some-complete ⊎ ((w' : ℕ) × Trying n N R c rack U a x v w₁ w' (y + 1))
      give w y l t =
          elim (cases_eq y x) [
            | inl e ↦ inr (w, steps.trying-skip n N R c rack U a x v w₁ w y t (inl e))
            | inr ne ↦
                elim (cases_Bool (member w y)) [
                  | inl seen ↦ inr (w, steps.trying-skip n N R c rack U a x v w₁ w y t (inr (inl seen)))
                  | inr fresh ↦
                      elim (way-or-not n c rack a x v y l ne) [
                        | inr none ↦ inr (w, steps.trying-skip n N R c rack U a x v w₁ w y t (inr (inr none)))
                        | inl way ↦
                            let next : Ready n N R c rack U (put a x v) y (bit_or w (2 ^ y)) =
                            steps.ready-next n N R c rack U a x v w₁ ready₁ u a (put a x v) refl (put-moved a x v) w y (bit_or w (2 ^ y)) l ne way refl in
                            let fewer : unseen n (bit_or w (2 ^ y)) < m =
                            omega (arith, steps.marks n w y (bit_or w (2 ^ y)) l refl fresh, unseen-le n w₀ w (λ k i. t.grown.more k (grown k i))) in
                            elim (place (put a x v) y (bit_or w (2 ^ y)) next fewer) [
                              | inl s ↦ inl s
                              | inr f ↦
                                  inr (
                                    f.0,
                                    steps.retried n N R c rack U a x v w₁ ready₁ u a (put a x v) refl (put-moved a x v) w y (bit_or w (2 ^ y)) f.0
                                        t l ne fresh way refl f.1,
                                  )
                            ]
                      ]
                ]
          ]

      gives : (y : ℕ) → y ≤ n → Some-complete ⊎ ((w' : ℕ) × Trying n N R c rack U a x v w₁ w' y)
      gives zero l = inr (w₁, steps.trying-none n N R c rack U a x v w₁)
      gives (suc y) l =
          elim (gives y (omega arith)) [
            | inl s ↦ inl s
            | inr t ↦
                elim (give t.0 y (omega arith) t.1) [
                  | inl s ↦ inl s
                  | inr t' ↦ inr (t'.0, subst (λ j. Trying n N R c rack U a x v w₁ t'.0 j) (add-one y) t'.1)
                ]
          ]

      -- x takes v, or cannot
      try : Some-complete ⊎ ((w' : ℕ) × Blocked n N R c rack U a x v w₁ w')
      try =
          elim (open-or-shut n c rack a x v) [
            | inl o ↦ inl (put a x v, steps.opened n N R c rack U a x v w₁ ready₁ u a (put a x v) refl (put-moved a x v) o)
            | inr s ↦
                elim (gives n (omega arith)) [
                  | inl h ↦ inl h
                  | inr t ↦ inr (t.0, steps.trying-all n N R c rack U a x v w₁ t.0 n t.1 (omega arith) s)
                ]
          ]

    tries : (i : ℕ) → Some-complete ⊎ ((w' : ℕ) × Passing n N R c rack U a x (λ k. k) w₀ w' i)
    tries zero = inr (w₀, steps.passing-none n N R c rack U a x (λ k. k) w₀)
    tries (suc i) =
        elim (tries i) [
          | inl s ↦ inl s
          | inr t ↦
              let on : (w' : ℕ) → Passing n N R c rack U a x (λ k. k) w₀ w' (i + 1) → Passing n N R c rack U a x (λ k. k) w₀ w' (suc i) =
              λ w'. subst (λ j. Passing n N R c rack U a x (λ k. k) w₀ w' j) (add-one i) in
              elim (cases_Bool (U x i)) [
                | inr no' ↦ inr (t.0, on t.0 (steps.passing-skip n N R c rack U a x (λ k. k) w₀ t.0 i t.1 no'))
                | inl u ↦
                    elim (try i t.0 t.1.grown.more (steps.ready-same n N R c rack U a x w₀ t.0 ready a refl t.1.grown) u) [
                      | inl s ↦ inl s
                      | inr b ↦ inr (b.0, on b.0 (steps.passing-more n N R c rack U a x (λ k. k) w₀ t.0 b.0 i t.1 b.1))
                    ]
              ]
        ]

    each : Searched a x w₀
    each =
        elim (tries N) [
          | inl s ↦ inl s
          | inr t ↦
              inr (t.0, steps.passing-all n N R c rack U a x (λ k. k) w₀ t.0 N t.1 (λ v u. (v, ready.sized.node x v u, refl)))
        ]

  searches : (m : ℕ) → Searches m
  searches zero a x w r l = absurd (omega arith)
  searches (suc m) a x w r l = each m (searches m) a x w r l

  -- every block is placed, or there is a crowded set that is in every other
  abbrev pub Some-least : Type 0
  Some-least = (w : ℕ) × (w < 2 ^ n) × Crowded n N R c rack U (member w) × ((T : ℕ → Bool) → Crowded n N R c rack U T → Subset w T)

  pub searched : Sized N R rack U → (a : ℕ → ℕ) (x : ℕ) → Partial n c rack U a x → Some-complete ⊎ Some-least
  searched s a x p =
      let m : ℕ = bit_or 0 (2 ^ x) in
      let r : Ready n N R c rack U a x (bit_or 0 (2 ^ x)) = steps.ready-first n N R c rack U a x (bit_or 0 (2 ^ x)) s p refl in
      elim (searches (suc (unseen n (bit_or 0 (2 ^ x)))) a x (bit_or 0 (2 ^ x)) r (omega arith)) [
        | inl h ↦ inl h
        | inr f ↦
            inr (
              f.0,
              steps.found_within n N R c rack U a x (bit_or 0 (2 ^ x)) f.0 r refl f.1,
              steps.found-crowded n N R c rack U a x (bit_or 0 (2 ^ x)) f.0 r refl f.1,
              steps.found-least n N R c rack U a x (bit_or 0 (2 ^ x)) f.0 r refl f.1,
            )
      ]

module _ (N R c : ℕ) (rack : ℕ → ℕ) (U : ℕ → ℕ → Bool) (sized : Sized N R rack U) where
  none-placed : Complete 0 c rack U (λ _. 0)
  none-placed = record {
    usable = λ i l. absurd (omega arith);
    distinct = λ i j l. absurd (omega arith);
    spread = λ r. omega (arith, count-max 0 (λ i. eqb (rack 0) r));
  }

  -- of the first n blocks, all can be placed, or some set is crowded
  pub decided : (n : ℕ) → Some-complete n N R c rack U ⊎ ((w : ℕ) × (w < 2 ^ n) × Crowded n N R c rack U (member w))
  decided zero = inl ((λ _. 0), none-placed)
  decided (suc n) =
      elim (decided n) [
        | inl p ↦
            elim (searched (suc n) N R c rack U sized p.0 n (partial-next n c rack U p.0 p.1)) [
              | inl q ↦ inl q
              | inr q ↦ inr (q.0, q.1, q.2)
            ]
        | inr q ↦
            inr (
              q.0,
              omega (arith, q.1, pow_below n (suc n) (omega arith)),
              crowded-more n (suc n) N N R c rack rack U U (member q.0) (omega arith) (λ i v _ u. (sized.node i v u, u, refl))
                  (λ i l _. member-past n q.0 i q.1 l) q.2,
            )
      ]
