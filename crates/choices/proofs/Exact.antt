-- The list of choices holds the choices and nothing else.
use Rattle.std.proofs.Common.{◌≡◌, ℕ, zero, suc, ◌<◌, ◌≤◌, Bool, true, false, eqb, leb, ◌⊎◌, List, [], ◌∷◌, ◌++◌, map, length, get_or, count_by, filter, refl, ap, inl, inr, arith}
use Rattle.std.specs.List.{ContainsAt as Has}
use Rattle.std.proofs.lemmas.Bool.{cases_Bool, eqb-true, eq-eqb, le-leb, and_parts, and_from, or_cases, or_left, or_right, both_ways}
use Rattle.site.specs.Site.{Site, keeps, node_rack}
use Rattle.choices.specs.Choice.{Copies, Choice, has, every, apart, beside, fits, joined, picks, choices}
use Rattle.choices.proofs.Nodes.{every-get_or, every-from-get_or, apart-differ, apart-from-differ}
use Rattle.choices.proofs.Counts.{count-list, groups-held}

-- what stands in a list, by recursion over it
abbrev pub In : {X : Type 0} → List X → X → Type 0
In [] x = ⊥
In (y ∷ ys) x = (y ≡ x) ⊎ In ys x

module _ {X : Type 0} where
  pub in_place : (xs : List X) (x : X) (k : ℕ) → k < length xs → ((d : X) → get_or xs k d ≡ x) → In xs x
  in_place [] x k l e = absurd (omega arith)
  in_place (y ∷ ys) x zero l e = inl (e y)
  in_place (y ∷ ys) x (suc k) l e = inr (in_place ys x k (omega arith) e)

  pub in-has : (xs : List X) (x : X) → In xs x → Has xs x
  in-has [] x h = absurd h
  in-has (y ∷ ys) x (inl e) = (0, omega arith, λ d. e)
  in-has (y ∷ ys) x (inr h) = let p = in-has ys x h in (suc p.0, omega (arith, p.1), p.2)

  pub has_in : (xs : List X) (x : X) → Has xs x → In xs x
  has_in xs x h = in_place xs x h.0 h.1 h.2

  pub in_append_left : (xs ys : List X) (x : X) → In xs x → In (xs ++ ys) x
  in_append_left [] ys x h = absurd h
  in_append_left (z ∷ xs) ys x (inl e) = inl e
  in_append_left (z ∷ xs) ys x (inr h) = inr (in_append_left xs ys x h)

  pub in_append_right : (xs ys : List X) (x : X) → In ys x → In (xs ++ ys) x
  in_append_right [] ys x h = h
  in_append_right (z ∷ xs) ys x h = inr (in_append_right xs ys x h)

  pub in-append-cases : (xs ys : List X) (x : X) → In (xs ++ ys) x → In xs x ⊎ In ys x
  in-append-cases [] ys x h = inr h
  in-append-cases (z ∷ xs) ys x (inl e) = inl (inl e)
  in-append-cases (z ∷ xs) ys x (inr h) = elim (in-append-cases xs ys x h) [ inl a ↦ inl (inr a) | inr b ↦ inr b ]

  pub in-kept-by : (p : X → Bool) (xs : List X) (x : X) → In xs x → p x ≡ true → In (filter p xs) x
  in-kept-by p [] x h t = absurd h
  in-kept-by p (y ∷ ys) x (inl e) t = let u : p y ≡ true = rw e t in rw u (inl e)
  in-kept-by p (y ∷ ys) x (inr h) t =
      elim (cases_Bool (p y)) [ inl u ↦ rw u (inr (in-kept-by p ys x h t)) | inr u ↦ rw u (in-kept-by p ys x h t) ]

  pub in-kept-by-from : (p : X → Bool) (xs : List X) (x : X) → In (filter p xs) x → In xs x × (p x ≡ true)
  in-kept-by-from p [] x h = absurd h
  in-kept-by-from p (y ∷ ys) x h =
      elim (cases_Bool (p y)) [
        | inl u ↦
            let g : (y ≡ x) ⊎ In (filter p ys) x = rw u at h in
            elim g [ inl e ↦ (inl e, rw (← e) u) | inr i ↦ let r = in-kept-by-from p ys x i in (inr r.0, r.1) ]
        | inr u ↦
            let g : In (filter p ys) x = rw u at h in
            let r = in-kept-by-from p ys x g in (inr r.0, r.1)
      ]

  pub in_map : {Y : Type 0} (f : X → Y) (xs : List X) (x : X) → In xs x → In (map f xs) (f x)
  in_map f [] x h = absurd h
  in_map f (y ∷ ys) x (inl e) = inl (ap f e)
  in_map f (y ∷ ys) x (inr h) = inr (in_map f ys x h)

  pub in-map-from : {Y : Type 0} (f : X → Y) (xs : List X) (y : Y) → In (map f xs) y → (x : X) × In xs x × (f x ≡ y)
  in-map-from f [] y h = absurd h
  in-map-from f (x ∷ xs) y (inl e) = (x, inl refl, e)
  in-map-from f (x ∷ xs) y (inr h) = let r = in-map-from f xs y h in (r.0, inr r.1, r.2)

pub in-joined : (f : ℕ → List (List ℕ)) (b : List ℕ) (v : ℕ) (x : List ℕ) → has v b ≡ true → In (f v) x → In (joined f b) x
in-joined f [] v x h i = absurd (both_ways false refl h)
in-joined f (w ∷ b) v x h i =
    elim (or_cases (eqb v w) _ h) [
      | inl t ↦ in_append_left (f w) (joined f b) x (rw (eqb-true v w t) at i)
      | inr t ↦ in_append_right (f w) (joined f b) x (in-joined f b v x t i)
    ]

pub in-joined-from : (f : ℕ → List (List ℕ)) (b : List ℕ) (x : List ℕ) → In (joined f b) x → (v : ℕ) × (has v b ≡ true) × In (f v) x
in-joined-from f [] x h = absurd h
in-joined-from f (w ∷ b) x h =
    elim (in-append-cases (f w) (joined f b) x h) [
      | inl i ↦ (w, or_left (eqb w w) _ (eq-eqb w w refl), i)
      | inr i ↦ let r = in-joined-from f b x i in (r.0, or_right (eqb r.0 w) _ r.1, r.2)
    ]

-- one node from each list
abbrev pub Picked : List Copies → List ℕ → Type 0
Picked [] [] = Unit {0}
Picked [] (v ∷ vs) = ⊥
Picked (b ∷ bs) [] = ⊥
Picked (b ∷ bs) (v ∷ vs) = (has v b ≡ true) × Picked bs vs

pub in-picks : (bs : List Copies) (vs : List ℕ) → Picked bs vs → In (picks bs) vs
in-picks [] [] h = inl refl
in-picks [] (v ∷ vs) h = absurd h
in-picks (b ∷ bs) [] h = absurd h
in-picks (b ∷ bs) (v ∷ vs) h =
    in-joined (λ u. map (λ us. u ∷ us) (picks bs)) b v (v ∷ vs) h.0 (in_map (λ us. v ∷ us) (picks bs) vs (in-picks bs vs h.1))

pub in-picks-from : (bs : List Copies) (vs : List ℕ) → In (picks bs) vs → Picked bs vs
in-picks-from [] vs (inl e) = rw (← e) tt
in-picks-from [] vs (inr h) = absurd h
in-picks-from (b ∷ bs) vs h =
    let j = in-joined-from (λ u. map (λ us. u ∷ us) (picks bs)) b vs h in
    let m = in-map-from (λ us. j.0 ∷ us) (picks bs) vs j.2 in
    rw (← m.2) (j.1, in-picks-from bs m.0 m.1)

pub picked-long : (bs : List Copies) (vs : List ℕ) → Picked bs vs → length vs ≡ length bs
picked-long [] [] h = refl
picked-long [] (v ∷ vs) h = absurd h
picked-long (b ∷ bs) [] h = absurd h
picked-long (b ∷ bs) (v ∷ vs) h = ap suc (picked-long bs vs h.1)

pub picked-listed : (bs : List Copies) (vs : List ℕ) → Picked bs vs → (i : ℕ) → i < length bs → has (get_or vs i 0) (get_or bs i []) ≡ true
picked-listed [] vs h i l = absurd (omega arith)
picked-listed (b ∷ bs) [] h i l = absurd h
picked-listed (b ∷ bs) (v ∷ vs) h zero l = h.0
picked-listed (b ∷ bs) (v ∷ vs) h (suc i) l = picked-listed bs vs h.1 i (omega arith)

pub picked-from : (bs : List Copies) (vs : List ℕ) → length vs ≡ length bs
    → ((i : ℕ) → i < length bs → has (get_or vs i 0) (get_or bs i []) ≡ true) → Picked bs vs
picked-from [] [] e h = tt
picked-from [] (v ∷ vs) e h = absurd (omega arith)
picked-from (b ∷ bs) [] e h = absurd (omega arith)
picked-from (b ∷ bs) (v ∷ vs) e h = (h 0 (omega arith), picked-from bs vs (omega arith) (λ i l. h (suc i) (omega arith)))

-- what a choice's nodes keep, whatever the lists
module _ (s : Site) (c : ℕ) (bs : List Copies) (vs : List ℕ) where
  pub choice-held : Choice s c bs vs → (r : ℕ) → count_by (λ v. eqb (node_rack s v) r) vs ≤ c
  choice-held h r = let e = count-list (λ v. eqb (node_rack s v) r) vs in rw (← e) (rw h.long (h.spread r))

  pub choice-keeps : Choice s c bs vs → every (keeps s) vs ≡ true
  choice-keeps h = every-from-get_or (keeps s) vs 0 (λ i l. h.kept i (rw h.long at l))

  pub choice-apart : Choice s c bs vs → apart vs ≡ true
  choice-apart h = apart-from-differ vs (λ i j l m. h.differ i j (rw h.long at l) (rw h.long at m))

  pub choice-fits : Choice s c bs vs → fits s c vs ≡ true
  choice-fits h =
      and_from (every (keeps s) vs) _ (choice-keeps h)
      (and_from (apart vs) _ (choice-apart h)
      (every-from-get_or (λ v. leb (beside s v vs) c) vs 0 (λ i l. le-leb (beside s (get_or vs i 0) vs) c (choice-held h (node_rack s (get_or vs i 0))))))

  pub choice-picked : Choice s c bs vs → Picked bs vs
  choice-picked h = picked-from bs vs h.long h.listed

  pub choice-from : Picked bs vs → fits s c vs ≡ true → Choice s c bs vs
  choice-from h t =
      let long = picked-long bs vs h in
      let a = and_parts (every (keeps s) vs) _ t in
      let b = and_parts (apart vs) _ a.1 in
      record {
        long = long;
        listed = picked-listed bs vs h;
        kept = λ i l. every-get_or (keeps s) vs i 0 a.0 (rw long l);
        differ = λ i j l m. apart-differ vs b.0 i j (rw long l) (rw long m);
        spread = λ r. rw (← long, count-list (λ v. eqb (node_rack s v) r) vs) (groups-held (node_rack s) c vs b.1 r);
      }

  pub in-choices : Choice s c bs vs → In (choices s c bs) vs
  in-choices h = in-kept-by (fits s c) (picks bs) vs (in-picks bs vs (choice-picked h)) (choice-fits h)

  pub in-choices-from : In (choices s c bs) vs → Choice s c bs vs
  in-choices-from h =
      let r = in-kept-by-from (fits s c) (picks bs) vs h in choice-from (in-picks-from bs vs r.0) r.1

  pub choices-exact : (Has (choices s c bs) vs → Choice s c bs vs) × (Choice s c bs vs → Has (choices s c bs) vs)
  choices-exact =
      ((λ h. in-choices-from (has_in (choices s c bs) vs h)), (λ h. in-has (choices s c bs) vs (in-choices h)))
