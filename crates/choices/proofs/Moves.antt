-- One block moves: x takes v, and either all are placed then, or the block y that gave way is the one with no place.
use Rattle.std.proofs.Common.{◌≡◌, ℕ, suc, ◌<◌, ◌≤◌, Bool, true, false, cond, ◌&&◌, eqb, sym, refl, ap, ◌∙◌, inl, inr, le_trans, arith}
use Rattle.std.proofs.lemmas.Bool.{cases_eq, eqb-true, eqb-false, eq-eqb, ne_eqb, and_parts, and_from, both_ways, not-true, not_from_false}
use Rattle.choices.specs.Sums.{count_to}
use Rattle.choices.proofs.Finite.{count-le, count-mono, count-but-one, inject}
use Rattle.choices.specs.Search.{but, Placed, Complete, Partial, Moved, Free, Way, in_rack, share}

pub but-yes : (x k : ℕ) → (k ≡ x → ⊥) → but x k ≡ true
but-yes x k ne = not_from_false _ (ne_eqb k x ne)

pub but-no : (x k : ℕ) → but x k ≡ true → k ≡ x → ⊥
but-no x k t = eqb-false k x (not-true _ t)

-- one place of p goes over to another of q
count-moved : (n : ℕ) (p q : ℕ → Bool) (x y : ℕ) → y < n → p y ≡ false → (p x ≡ true → q y ≡ true)
    → ((k : ℕ) → k < n → (k ≡ x → ⊥) → p k ≡ true → q k ≡ true) → count_to n p ≤ count_to n q
count-moved n p q x y l py at rest =
    inject n n p q f
    (λ k m t.
    elim (cases_eq k x) [
      | inl e ↦ let s : f k ≡ y = f-at k e in (rw s l, rw s (at (rw e at t)))
      | inr e ↦ let s : f k ≡ k = f-else k e in (rw s m, rw s (rest k m e t))
    ])
    (λ j k m o s t e.
    elim (cases_eq j x) [
      | inl d ↦
          elim (cases_eq k x) [
            | inl g ↦ d ∙ sym g
            | inr g ↦ absurd (both_ways (p y) py (rw (sym (f-else k g) ∙ sym e ∙ f-at j d) at t))
          ]
      | inr d ↦
          elim (cases_eq k x) [
            | inl g ↦ absurd (both_ways (p y) py (rw (sym (f-else j d) ∙ e ∙ f-at k g) at s))
            | inr g ↦ sym (f-else j d) ∙ e ∙ f-else k g
          ]
    ])
  where
    f : ℕ → ℕ
    f k = cond (eqb k x) y k

    f-at : (k : ℕ) → k ≡ x → f k ≡ y
    f-at k e = simp (eq-eqb k x e)

    f-else : (k : ℕ) → (k ≡ x → ⊥) → f k ≡ k
    f-else k e = simp (ne_eqb k x e)

module _ (n c : ℕ) (rack : ℕ → ℕ) (U : ℕ → ℕ → Bool) (a a' : ℕ → ℕ) (x v : ℕ) (moved : Moved a x v a')
    (placed : Placed n c rack U (but x) a) (use' : U x v ≡ true) where
  here : a' x ≡ v
  here = moved.here

  there : (k : ℕ) → (k ≡ x → ⊥) → a' k ≡ a k
  there = moved.there

  pub take : Free n a x v → in_rack n rack a x (rack v) < c → Complete n c rack U a'
  take free room = record {
    usable = λ k l _. elim (cases_eq k x) [ inl e ↦ rw (e, here) use' | inr e ↦ rw (there k e) (placed.usable k l (but-yes x k e)) ];
    distinct = λ j k l m _ _ s.
        elim (cases_eq j x) [
          | inl d ↦ elim (cases_eq k x) [ inl e ↦ d ∙ sym e | inr e ↦ absurd (free k m e (sym (there k e) ∙ sym s ∙ ap a' d ∙ here)) ]
          | inr d ↦
              elim (cases_eq k x) [
                | inl e ↦ absurd (free j l d (sym (there j d) ∙ s ∙ ap a' e ∙ here))
                | inr e ↦ placed.distinct j k l m (but-yes x j d) (but-yes x k e) (sym (there j d) ∙ s ∙ there k e)
              ]
        ];
    spread = λ r.
        elim (cases_eq (rack v) r) [
          | inl e ↦
              let room' : count_to n (λ k. but x k && eqb (rack (a k)) r) < c = rw e at room in
              omega (
                arith,
                count-but-one n (λ k. eqb (rack (a' k)) r) (λ k. but x k && eqb (rack (a k)) r) x
                    (λ k l d t. and_from _ _ (but-yes x k d) (rw (there k d) at t)),
              )
          | inr e ↦
              le_trans
              (count-le n (λ k. eqb (rack (a' k)) r) (λ k. but x k && eqb (rack (a k)) r)
              (λ k l t.
              elim (cases_eq k x) [
                | inl d ↦ absurd (e (sym (ap rack (ap a' d ∙ here)) ∙ eqb-true _ _ t))
                | inr d ↦ and_from _ _ (but-yes x k d) (rw (there k d) at t)
              ]))
              (placed.spread r)
        ];
  }

  module _ (y : ℕ) (other : y ≡ x → ⊥) (in' : y < n) (way : Way n rack a x y v) where
    same-rack : rack (a y) ≡ rack v
    same-rack = elim way [ inl e ↦ ap rack e | inr h ↦ h.1 ]

    -- no block but y holds v
    only : (k : ℕ) → k < n → (k ≡ x → ⊥) → (k ≡ y → ⊥) → a k ≡ v → ⊥
    only k l d e s =
        elim way [ inl g ↦ e (placed.distinct k y l in' (but-yes x k d) (but-yes x y other) (s ∙ sym g)) | inr h ↦ h.0 k l d s ]

    pub swap : Placed n c rack U (but y) a'
    swap = record {
      usable = λ k l _. elim (cases_eq k x) [ inl e ↦ rw (e, here) use' | inr e ↦ rw (there k e) (placed.usable k l (but-yes x k e)) ];
      distinct = λ j k l m s t g.
          elim (cases_eq j x) [
            | inl d ↦
                elim (cases_eq k x) [
                  | inl e ↦ d ∙ sym e
                  | inr e ↦ absurd (only k m e (but-no y k t) (sym (there k e) ∙ sym g ∙ ap a' d ∙ here))
                ]
            | inr d ↦
                elim (cases_eq k x) [
                  | inl e ↦ absurd (only j l d (but-no y j s) (sym (there j d) ∙ g ∙ ap a' e ∙ here))
                  | inr e ↦ placed.distinct j k l m (but-yes x j d) (but-yes x k e) (sym (there j d) ∙ g ∙ there k e)
                ]
          ];
      spread = λ r.
          le_trans
          (count-moved n (λ k. but y k && eqb (rack (a' k)) r) (λ k. but x k && eqb (rack (a k)) r) x y in'
          (simp (eq-eqb y y refl))
          (λ t. and_from _ _ (but-yes x y other) (rw (same-rack, ← here) (and_parts (but y x) _ t).1))
          (λ k l d t. and_from _ _ (but-yes x k d) (rw (there k d) at (and_parts (but y k) _ t).1)))
          (placed.spread r);
    }

    -- the blocks of a set that has x and y are as many in each rack, after the move and before
    pub share_back : (S : ℕ → Bool) → S x ≡ true → S y ≡ true → (r : ℕ)
        → share n rack a' y S r ≤ share n rack a x S r
    share_back S sx sy r =
        count-moved n (λ k. (S k && but y k) && eqb (rack (a' k)) r) (λ k. (S k && but x k) && eqb (rack (a k)) r) x y in'
        (simp (sy, eq-eqb y y refl))
        (λ t. and_from _ _ (and_from _ _ sy (but-yes x y other)) (rw (same-rack, ← here) (and_parts (S x && but y x) _ t).1))
        (λ k l d t.
        let t' = and_parts (S k && but y k) _ t in
        and_from _ _ (and_from _ _ (and_parts (S k) _ t'.0).0 (but-yes x k d)) (rw (there k d) at t'.1))

-- one more block, which has no place yet
pub partial-next : (n c : ℕ) (rack : ℕ → ℕ) (U : ℕ → ℕ → Bool) (a : ℕ → ℕ) → Complete n c rack U a → Partial (suc n) c rack U a n
unfolding count_to
partial-next n c rack U a p = record {
  inside = omega arith;
  placed = record {
    usable = λ i l t. p.usable i (below i l t) refl;
    distinct = λ i j l m s t e. p.distinct i j (below i l s) (below j m t) refl refl e;
    spread = λ r. omega (arith, p.spread r, few r);
  };
}
  where
    below : (i : ℕ) → i < suc n → but n i ≡ true → i < n
    below i l t = let ne : i ≡ n → ⊥ = but-no n i t in elim (cases_eq i n) [ inl e ↦ absurd (ne e) | inr e ↦ omega arith ]

    few : (r : ℕ) → count_to (suc n) (λ i. but n i && eqb (rack (a i)) r) ≤ count_to n (λ i. eqb (rack (a i)) r)
    few r =
        let z : (but n n && eqb (rack (a n)) r) ≡ false = simp (eq-eqb n n refl) in
        let l : count_to n (λ i. but n i && eqb (rack (a i)) r) ≤ count_to n (λ i. eqb (rack (a i)) r) =
        count-le n (λ i. but n i && eqb (rack (a i)) r) (λ i. eqb (rack (a i)) r) (λ i _ t. (and_parts (but n i) _ t).1) in
        simp z (omega arith)

-- only the nodes of the placed blocks matter, with their racks
pub placed_same : (n c : ℕ) (place rack : ℕ → ℕ) (U V : ℕ → ℕ → Bool) (D : ℕ → Bool) (a b : ℕ → ℕ)
    → ((i : ℕ) → i < n → D i ≡ true → U i (a i) ≡ true → (V i (a i) ≡ true) × (place (a i) ≡ rack (a i)))
    → ((i : ℕ) → i < n → D i ≡ true → a i ≡ b i) → Placed n c place U D a → Placed n c rack V D b
placed_same n c place rack U V D a b uses same p = record {
  usable = λ i l t. rw (← (same i l t)) (uses i l t (p.usable i l t)).0;
  distinct = λ i j l m s t e. p.distinct i j l m s t (same i l s ∙ e ∙ sym (same j m t));
  spread = λ r.
      le_trans
      (count-le n (λ i. D i && eqb (rack (b i)) r) (λ i. D i && eqb (place (a i)) r)
      (λ i l t.
      let t' = and_parts (D i) _ t in
      and_from _ _ t'.0
      (eq-eqb _ _ ((uses i l t'.0 (p.usable i l t'.0)).1 ∙ ap rack (same i l t'.0) ∙ eqb-true _ _ t'.1))))
      (p.spread r);
}

-- fewer blocks stay placed
pub complete-front : (n m c : ℕ) (rack : ℕ → ℕ) (U : ℕ → ℕ → Bool) (a : ℕ → ℕ) → n ≤ m → Complete m c rack U a → Complete n c rack U a
complete-front n m c rack U a l p = record {
  usable = λ i k t. p.usable i (omega arith) t;
  distinct = λ i j k h s t e. p.distinct i j (omega arith) (omega arith) s t e;
  spread = λ r. omega (arith, p.spread r, count-mono n m (λ i. eqb (rack (a i)) r) l);
}
