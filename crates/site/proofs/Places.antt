-- What the meanings of the three maps have at a node.
use Rattle.std.proofs.Common.{◌≡◌, ℕ, zero, suc, ◌*◌, ◌/◌, ◌<◌, ◌≤◌, Bool, true, false, cond, ltb, List, [], ◌∷◌, map, length, get_or, take, Some, None, Option, sym, refl, subst, ap, ◌∙◌, arith}
use Rattle.std.specs.List.{AllByRecursion, AllWithin, HoldsAt, slice_get}
use Rattle.std.specs.Option.{MatchOption, unwrap_or}
use Rattle.std.proofs.lemmas.Bool.{lt-ltb, le-ltb}
use Rattle.std.proofs.lemmas.List.FromFn.{length-map-range_with_len, get_or-map-range_with_len}
use Rattle.std.proofs.lemmas.Option.{slice_get-get_or, slice_get_past}
use Rattle.std.proofs.lemmas.List.{get_or-take, length-take-le}
use Rattle.site.specs.declared.Mark.TheVariants.{Yes}
use Rattle.site.specs.Site.{Place}
use Rattle.site.specs.Maps.{window, regular, listed}

module _ {X : Type 0} where
  pub all-nth : (P : X → Type 0) (xs : List X) (i : ℕ) (x : X) → AllByRecursion P xs → slice_get xs i ≡ Some x → P x
  all-nth P [] i x h e = let z : ◌≡◌ {A = ℕ} 0 1 = cc in absurd (omega arith)
  all-nth P (y ∷ ys) zero x h e = let q : y ≡ x = cc in rw q at h.0
  all-nth P (y ∷ ys) (suc i) x h e = all-nth P ys i x h.1 e

  pub nth-map-some : {Y : Type 0} (f : X → Y) (xs : List X) (i : ℕ) (x : X) → slice_get xs i ≡ Some x → slice_get (map f xs) i ≡ Some (f x)
  nth-map-some f [] i x e = cc
  nth-map-some f (y ∷ ys) zero x e = let q : y ≡ x = cc in ap (λ w. Some (f w)) q
  nth-map-some f (y ∷ ys) (suc i) x e = nth-map-some f ys i x e

  pub nth-map-none : {Y : Type 0} (f : X → Y) (xs : List X) (i : ℕ) → slice_get xs i ≡ None → slice_get (map f xs) i ≡ None
  nth-map-none f [] i e = refl
  nth-map-none f (y ∷ ys) zero e = cc
  nth-map-none f (y ∷ ys) (suc i) e = nth-map-none f ys i e

pub regular-at : (racks each v : ℕ) → v < racks * each → slice_get (regular racks each) v ≡ Some (record { 0 = v / each }, Yes)
regular-at racks each v h =
    let f : ℕ → Place = λ n. (record { 0 = n / each }, Yes) in
    slice_get-get_or (regular racks each) v (f 0) (rw length-map-range_with_len h) ∙ ap Some (get_or-map-range_with_len f 0 (racks * each) v v (f 0) h (omega arith))

pub regular-past : (racks each v : ℕ) → racks * each ≤ v → slice_get (regular racks each) v ≡ None
regular-past racks each v h = slice_get_past (regular racks each) v (rw length-map-range_with_len h)

pub window-take : (n : ℕ) (ps : List Place) → window n ps ≡ take (length (window n ps)) ps
window-take zero ps = refl
window-take (suc n) [] = refl
window-take (suc n) (p ∷ ps) =
    elim (ltb p.0.0 32) as (λ b. cond b (p ∷ window n ps) [] ≡ take (length (cond b (p ∷ window n ps) [])) (p ∷ ps))
    [ true ↦ ap (λ r. p ∷ r) (window-take n ps) | false ↦ refl ]

pub window-within : (n : ℕ) (ps : List Place) → length (window n ps) ≤ length ps
window-within zero ps = omega arith
window-within (suc n) [] = omega arith
window-within (suc n) (p ∷ ps) =
    elim (ltb p.0.0 32) as (λ b. length (cond b (p ∷ window n ps) []) ≤ suc (length ps))
    [ true ↦ omega (arith, window-within n ps) | false ↦ omega arith ]

pub listed_at : (ps : List Place) (v : ℕ) (d : Place) → v < length (listed ps) → slice_get (listed ps) v ≡ Some (get_or ps v d)
listed_at ps v d h =
    let n = length (window 256 ps) in
    let e : get_or (window 256 ps) v d ≡ get_or ps v d = ap (λ l. get_or l v d) (window-take 256 ps) ∙ get_or-take n ps v d h in
    slice_get-get_or (listed ps) v d h ∙ ap Some e

pub listed-past : (ps : List Place) (v : ℕ) → length (listed ps) ≤ v → slice_get (listed ps) v ≡ None
listed-past ps v h = slice_get_past (listed ps) v h

-- the entries before the first whose rack is past the last, of as many as the window may have
pub window-reach : (n : ℕ) (ps : List Place) (k : ℕ) → AllWithin (λ p. p.0.0 < 32) (take n ps) 0 k → k ≤ length (take n ps)
    → (k < length (take n ps) → HoldsAt (λ p. 32 ≤ p.0.0) (take n ps) k) → take k (take n ps) ≡ window n ps
window-reach zero ps zero below within stop = refl
window-reach zero ps (suc k) below within stop = absurd (omega (arith, within))
window-reach (suc n) [] zero below within stop = refl
window-reach (suc n) [] (suc k) below within stop = absurd (omega (arith, within))
window-reach (suc n) (p ∷ ps) zero below within stop = rw (le-ltb p.0.0 32 (stop (omega arith) p)) refl
window-reach (suc n) (p ∷ ps) (suc k) below within stop =
    let first : p.0.0 < 32 = below 0 p (omega arith) (omega arith) in
    let rest = window-reach n ps k (λ i d h l. below (suc i) d (omega arith) (omega arith)) (omega (arith, within)) (λ h d. stop (omega (arith, h)) d) in
    rw (lt-ltb p.0.0 32 first) (ap (λ r. p ∷ r) rest)

-- the same of the place that was found, or of none
pub window-found : (n : ℕ) (ps ws : List Place) (r : Option ℕ) → ws ≡ take n ps
    → MatchOption r (AllWithin (λ p. p.0.0 < 32) ws 0 (length ws)) (λ i. (i < length ws) × HoldsAt (λ p. 32 ≤ p.0.0) ws i × AllWithin (λ p. p.0.0 < 32) ws 0 i)
    → take (unwrap_or r (length ws)) ws ≡ window n ps
window-found n ps ws None e f = subst (λ vs. take (length vs) vs ≡ window n ps) (sym e) (window-reach n ps (length (take n ps)) (subst (λ vs. AllWithin (λ p. p.0.0 < 32) vs 0 (length vs)) e f) (omega arith) (λ h. absurd (omega (arith, h))))
window-found n ps ws (Some i) e f =
    let g = subst (λ vs. (i < length vs) × HoldsAt (λ p. 32 ≤ p.0.0) vs i × AllWithin (λ p. p.0.0 < 32) vs 0 i) e f in
    subst (λ vs. take i vs ≡ window n ps) (sym e) (window-reach n ps i g.2 (omega (arith, g.0)) (λ h. g.1))

-- how many they are
pub window-count : (n : ℕ) (ps ws : List Place) (r : Option ℕ) → ws ≡ take n ps
    → MatchOption r (AllWithin (λ p. p.0.0 < 32) ws 0 (length ws)) (λ i. (i < length ws) × HoldsAt (λ p. 32 ≤ p.0.0) ws i × AllWithin (λ p. p.0.0 < 32) ws 0 i)
    → length (window n ps) ≡ unwrap_or r (length ws)
window-count n ps ws None e f = ap length (sym (window-found n ps ws None e f)) ∙ length-take-le (length ws) ws (omega arith)
window-count n ps ws (Some i) e f = ap length (sym (window-found n ps ws (Some i) e f)) ∙ length-take-le i ws (omega (arith, f.0))
