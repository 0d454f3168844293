-- The search's sets: what a move leaves covered, what is forced into every crowded set, and what a failed search has found.
use Rattle.std.proofs.Common.{◌≡◌, ℕ, ◌<◌, ◌≤◌, Bool, true, ◌&&◌, eqb, ◌⊎◌, List, length, get_or, set, sym, refl, ap, ◌∙◌, inl, inr, le_trans}
use Rattle.std.proofs.lemmas.List.{get_or-set_same, get_or-set_other}
use Rattle.std.proofs.lemmas.Bool.{cases_eq, cases_Bool, eqb-true, eq-eqb, and_parts, and_from}
use Rattle.site.specs.Words.{member}
use Rattle.choices.specs.Sums.{count_to, any_to}
use Rattle.choices.specs.Search.{Sized, reach_of, Crowded, Complete, but, Partial, Moved, Open, Shut, Way, Covered, Subset, Failed}
use Rattle.choices.proofs.Finite.{count-le}
use Rattle.choices.proofs.Reach as reach
use Rattle.choices.proofs.Reach.{any-decides}
use Rattle.choices.proofs.Moves as moves
use Rattle.choices.proofs.Moves.{but-yes, but-no}

-- a write into a list of nodes is a move
pub moved-set : (vs : List ℕ) (x v : ℕ) → x < length vs → Moved (λ k. get_or vs k 0) x v (λ k. get_or (set vs x v) k 0)
moved-set vs x v l = record { here = get_or-set_same vs x v 0 l; there = λ k ne. get_or-set_other vs x k v 0 ne }

module _ (n c : ℕ) (rack a : ℕ → ℕ) (x : ℕ) where
  pub covered_more : (S T : ℕ → Bool) (v : ℕ) → ((k : ℕ) → S k ≡ true → T k ≡ true) → Covered n c rack a x S v → Covered n c rack a x T v
  covered_more S T v sub h =
      elim h [
        | inl k ↦ inl (k.0, k.1, sub k.0 k.2, k.3, k.4)
        | inr k ↦
            inr (le_trans k
            (count-le n (λ k. (S k && but x k) && eqb (rack (a k)) (rack v)) (λ k. (T k && but x k) && eqb (rack (a k)) (rack v))
            (λ k l t.
            let t' = and_parts (S k && but x k) _ t in
            let t'' = and_parts (S k) _ t'.0 in and_from _ _ (and_from _ _ (sub k t''.0) t''.1) t'.1)))
      ]

  -- what no open node means, once every block that can give way is in the set
  pub closed : (S : ℕ → Bool) (v : ℕ) → Shut n c rack a x v
      → ((k : ℕ) → k < n → (k ≡ x → ⊥) → Way n rack a x k v → S k ≡ true) → Covered n c rack a x S v
  closed S v shut all =
      elim shut [
        | inl h ↦ inl (h.0, h.1, all h.0 h.1 h.2 (inl h.3), but-yes x h.0 h.2, h.3)
        | inr h ↦
            inr (le_trans h.1
            (count-le n (λ k. but x k && eqb (rack (a k)) (rack v)) (λ k. (S k && but x k) && eqb (rack (a k)) (rack v))
            (λ k l t.
            let t' = and_parts (but x k) _ t in
            and_from _ _ (and_from _ _ (all k l (but-no x k t'.0) (inr (h.0, eqb-true _ _ t'.1))) t'.0) t'.1)))
      ]

module _ (n c : ℕ) (rack : ℕ → ℕ) (U : ℕ → ℕ → Bool) (a : ℕ → ℕ) (x v : ℕ) (a' : ℕ → ℕ) (m : Moved a x v a') (p : Partial n c rack U a x) (u : U x v ≡ true) where
  -- x takes an open node
  pub took : Open n c rack a x v → Complete n c rack U a'
  took o = moves.take n c rack U a a' x v m p.placed u o.0 o.1

  module _ (y : ℕ) (ne : y ≡ x → ⊥) (l : y < n) (way : Way n rack a x y v) where
    -- x takes the node that y gives up, or one in its rack
    pub swapped : Partial n c rack U a' y
    swapped = record { inside = l; placed = moves.swap n c rack U a a' x v m p.placed u y ne l way }

    -- what is covered after the move was covered before, but for v
    pub back : (S : ℕ → Bool) → S x ≡ true → S y ≡ true → (z : ℕ) → Covered n c rack a' y S z → Covered n c rack a x S z ⊎ (z ≡ v)
    back S sx sy z h =
        elim h [
          | inl k ↦
              elim (cases_eq k.0 x) [
                | inl e ↦ inr (sym k.4 ∙ ap a' e ∙ m.here)
                | inr e ↦ inl (inl (k.0, k.1, k.2, but-yes x k.0 e, sym (m.there k.0 e) ∙ k.4))
              ]
          | inr k ↦ inl (inr (le_trans k (moves.share_back n c rack U a a' x v m p.placed u y ne l way S sx sy (rack z))))
        ]

module _ (n N R c : ℕ) (rack : ℕ → ℕ) (U : ℕ → ℕ → Bool) (sized : Sized N R rack U) where
  -- where all blocks are placed, no set is crowded
  pub uncrowded : (a : ℕ → ℕ) → Complete n c rack U a → (T : ℕ → Bool) → count_to n T ≤ reach_of n N R c rack U T
  uncrowded a p T = reach.placed-reach n N R c rack U sized (λ _. true) a p T (λ _ _ _. refl)

  -- every crowded set has the block with no place
  pub forced-out : (a : ℕ → ℕ) (x : ℕ) → Partial n c rack U a x → (T : ℕ → Bool) → Crowded n N R c rack U T → T x ≡ true
  forced-out a x p T t = reach.has-out n N R c rack U sized (but x) a p.placed x (λ k _ ne. but-yes x k ne) T t

  -- a failed search from x alone has found a crowded set, and it is in every other
  pub found : (a : ℕ → ℕ) (x w w' : ℕ) → Partial n c rack U a x → Failed n N R c rack U a x w w'
      → ((k : ℕ) → member w k ≡ true → k ≡ x) → member w x ≡ true → Crowded n N R c rack U (member w')
  found a x w w' p f only own =
      reach.crowded n N R c rack U sized (but x) a p.placed (member w') x p.inside (f.grown.more x own) (simp (eq-eqb x x refl)) covers
    where
      covers : (v : ℕ) → v < N → any_to n (λ k. member w' k && U k v) ≡ true → Covered n c rack a x (member w') v
      covers v _ t =
          let h = (any-decides n (λ k. member w' k && U k v)).0 t in
          let m = and_parts (member w' h.0) _ h.2 in
          elim (cases_Bool (member w h.0)) [
            | inl e ↦ f.own v (rw (only h.0 e) at m.1)
            | inr e ↦ f.new h.0 h.1 m.0 e v m.1
          ]

  pub least : (a : ℕ → ℕ) (x w w' : ℕ) → Partial n c rack U a x → Failed n N R c rack U a x w w'
      → ((k : ℕ) → member w k ≡ true → k ≡ x) → (T : ℕ → Bool) → Crowded n N R c rack U T → Subset w' T
  least a x w w' p f only T t = f.grown.forced T t (λ k m. rw (only k m) (forced-out a x p T t))
