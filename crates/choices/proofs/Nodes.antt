-- Lists of nodes: which node a list has, what all of it passes, and lists that name no node twice.
use Rattle.std.proofs.Common.{◌≡◌, ℕ, zero, suc, ◌+◌, ◌<◌, ◌≤◌, Bool, true, false, not, eqb, List, [], ◌∷◌, ◌++◌, length, get_or, sym, refl, ap, inl, inr, arith}
use Rattle.std.specs.List.{range_with_len}
use Rattle.std.proofs.lemmas.Bool.{cases_eq, cases_Bool, eqb-true, eqb-false, eq-eqb, ne_eqb, and_parts, and_from, or_cases, or_parts, or_from, or_left, or_right, not-true, not_from_false, both_ways}
use Rattle.choices.specs.Choice.{has, every, apart}

module _ {A : Type 0} (f : A → Bool) where
  pub every-get_or : (xs : List A) (i : ℕ) (d : A) → every f xs ≡ true → i < length xs → f (get_or xs i d) ≡ true
  every-get_or [] i d h l = absurd (omega arith)
  every-get_or (x ∷ xs) zero d h l = (and_parts (f x) _ h).0
  every-get_or (x ∷ xs) (suc i) d h l = every-get_or xs i d (and_parts (f x) _ h).1 (omega arith)

  pub every-from-get_or : (xs : List A) (d : A) → ((i : ℕ) → i < length xs → f (get_or xs i d) ≡ true) → every f xs ≡ true
  every-from-get_or [] d h = refl
  every-from-get_or (x ∷ xs) d h = and_from (f x) _ (h 0 (omega arith)) (every-from-get_or xs d (λ i l. h (suc i) (omega arith)))

  pub every-push : (xs : List A) (x : A) → every f xs ≡ true → f x ≡ true → every f (xs ++ x ∷ []) ≡ true
  every-push [] x h t = and_from (f x) true t refl
  every-push (y ∷ ys) x h t = let p = and_parts (f y) _ h in and_from (f y) _ p.0 (every-push ys x p.1 t)

-- the place of a node that a list has
pub has-place : (v : ℕ) (vs : List ℕ) → has v vs ≡ true → (i : ℕ) × (i < length vs) × (get_or vs i 0 ≡ v)
has-place v [] h = absurd (both_ways false refl h)
has-place v (w ∷ ws) h =
    elim (or_cases (eqb v w) _ h) [
      | inl t ↦ (0, omega arith, sym (eqb-true v w t))
      | inr t ↦ let p = has-place v ws t in (suc p.0, omega (arith, p.1), p.2)
    ]

pub has-at : (vs : List ℕ) (i : ℕ) → i < length vs → has (get_or vs i 0) vs ≡ true
has-at [] i l = absurd (omega arith)
has-at (v ∷ vs) zero l = or_left (eqb v v) _ (eq-eqb v v refl)
has-at (v ∷ vs) (suc i) l = or_right (eqb (get_or vs i 0) v) _ (has-at vs i (omega arith))

pub has_append_left : (v : ℕ) (xs ys : List ℕ) → has v xs ≡ true → has v (xs ++ ys) ≡ true
has_append_left v [] ys h = absurd (both_ways false refl h)
has_append_left v (x ∷ xs) ys h =
    elim (or_cases (eqb v x) _ h) [ inl t ↦ or_left (eqb v x) _ t | inr t ↦ or_right (eqb v x) _ (has_append_left v xs ys t) ]

pub has_append_right : (v : ℕ) (xs ys : List ℕ) → has v ys ≡ true → has v (xs ++ ys) ≡ true
has_append_right v [] ys h = h
has_append_right v (x ∷ xs) ys h = or_right (eqb v x) _ (has_append_right v xs ys h)

pub has-every : (f : ℕ → Bool) (v : ℕ) (vs : List ℕ) → every f vs ≡ true → has v vs ≡ true → f v ≡ true
has-every f v vs h t = let p = has-place v vs t in rw p.2 at (every-get_or f vs p.0 0 h p.1)

-- lists that name no node twice
pub apart-differ : (vs : List ℕ) → apart vs ≡ true → (i j : ℕ) → i < length vs → j < length vs → get_or vs i 0 ≡ get_or vs j 0 → i ≡ j
apart-differ [] h i j l m e = absurd (omega arith)
apart-differ (v ∷ vs) h zero zero l m e = refl
apart-differ (v ∷ vs) h zero (suc j) l m e =
    let no' = not-true (has v vs) (and_parts (not (has v vs)) _ h).0 in
    absurd (both_ways (has v vs) no' (rw e (has-at vs j (omega arith))))
apart-differ (v ∷ vs) h (suc i) zero l m e =
    let no' = not-true (has v vs) (and_parts (not (has v vs)) _ h).0 in
    absurd (both_ways (has v vs) no' (rw (← e) (has-at vs i (omega arith))))
apart-differ (v ∷ vs) h (suc i) (suc j) l m e =
    ap suc (apart-differ vs (and_parts (not (has v vs)) _ h).1 i j (omega arith) (omega arith) e)

pub apart-from-differ : (vs : List ℕ) → ((i j : ℕ) → i < length vs → j < length vs → get_or vs i 0 ≡ get_or vs j 0 → i ≡ j) → apart vs ≡ true
apart-from-differ [] h = refl
apart-from-differ (v ∷ vs) h =
    let miss : has v vs ≡ false =
    elim (cases_Bool (has v vs)) [
      | inl t ↦ let p = has-place v vs t in let z : ◌≡◌ {A = ℕ} 0 (suc p.0) = h 0 (suc p.0) (omega arith) (omega (arith, p.1)) (sym p.2) in absurd (omega arith)
      | inr t ↦ t
    ] in
    and_from (not (has v vs)) _ (not_from_false (has v vs) miss)
    (apart-from-differ vs (λ i j l m e. let z : suc i ≡ suc j = h (suc i) (suc j) (omega arith) (omega arith) e in omega arith))

has-push-false : (v x : ℕ) (xs : List ℕ) → has v xs ≡ false → eqb v x ≡ false → has v (xs ++ x ∷ []) ≡ false
has-push-false v x [] h t = or_from (eqb v x) false t refl
has-push-false v x (y ∷ ys) h t = let p = or_parts (eqb v y) _ h in or_from (eqb v y) _ p.0 (has-push-false v x ys p.1 t)

pub apart-push : (xs : List ℕ) (x : ℕ) → apart xs ≡ true → has x xs ≡ false → apart (xs ++ x ∷ []) ≡ true
apart-push [] x h t = refl
apart-push (y ∷ ys) x h t =
    let p = and_parts (not (has y ys)) _ h in
    let q = or_parts (eqb x y) _ t in
    let ne : eqb y x ≡ false = ne_eqb y x (λ e. eqb-false x y q.0 (sym e)) in
    and_from (not (has y (ys ++ x ∷ []))) _ (not_from_false _ (has-push-false y x ys (not-true _ p.0) ne)) (apart-push ys x p.1 q.1)

pub has-counting : (v a n : ℕ) → a ≤ v → v < a + n → has v (range_with_len a n) ≡ true
has-counting v a zero l m = absurd (omega arith)
has-counting v a (suc n) l m =
    elim (cases_eq v a) [
      | inl e ↦ or_left (eqb v a) _ (eq-eqb v a e)
      | inr e ↦ or_right (eqb v a) _ (has-counting v (a + 1) n (omega arith) (omega arith))
    ]
