-- The list of choices is in the plan's order, so its head is the first choice; where no list names a node twice it is the only one.
use Rattle.std.proofs.Common.{◌≡◌, ℕ, zero, suc, ◌<◌, Bool, true, false, eqb, ◌⊎◌, List, [], ◌∷◌, ◌++◌, map, length, get_or, filter, sym, refl, ap, ◌∙◌, ap₂, inl, inr, arith}
use Rattle.std.specs.List.{ContainsAt as Has}
use Rattle.std.proofs.lemmas.Bool.{cases_Bool, cases_eq, cases_order, eqb-true, or_cases, both_ways}
use Rattle.std.proofs.ByRecursion.{has_get_or}
use Rattle.site.specs.Site.{Site}
use Rattle.choices.specs.Choice.{Copies, Choice, Before, First, has, apart, fits, joined, picks, choices}
use Rattle.choices.specs.Plan.{first_of}
use Rattle.choices.proofs.Nodes.{apart-differ}
use Rattle.choices.proofs.Exact.{In, in-has, in-append-cases, in-kept-by-from, in-map-from, in-joined-from, in-choices, in-choices-from}

-- each element stands in R to all behind it
abbrev pub Ordered : {X : Type 0} → (X → X → Type 0) → List X → Type 0
Ordered R [] = Unit {0}
Ordered {X} R (x ∷ xs) = ((y : X) → In xs y → R x y) × Ordered R xs

module _ {X : Type 0} (R : X → X → Type 0) where
  pub ordered-weaker : (S : X → X → Type 0) → ((x y : X) → R x y → S x y) → (xs : List X) → Ordered R xs → Ordered S xs
  ordered-weaker S h [] o = tt
  ordered-weaker S h (x ∷ xs) o = ((λ y i. h x y (o.0 y i)), ordered-weaker S h xs o.1)

  pub ordered-kept-by : (p : X → Bool) (xs : List X) → Ordered R xs → Ordered R (filter p xs)
  ordered-kept-by p [] o = tt
  ordered-kept-by p (x ∷ xs) o =
      elim (cases_Bool (p x)) [
        | inl t ↦ rw t ((λ y i. o.0 y (in-kept-by-from p xs y i).0), ordered-kept-by p xs o.1)
        | inr t ↦ rw t (ordered-kept-by p xs o.1)
      ]

  pub ordered-append : (xs ys : List X) → Ordered R xs → Ordered R ys → ((x y : X) → In xs x → In ys y → R x y) → Ordered R (xs ++ ys)
  ordered-append [] ys o u h = u
  ordered-append (x ∷ xs) ys o u h =
      ((λ y i. elim (in-append-cases xs ys y i) [ inl a ↦ o.0 y a | inr b ↦ h x y (inl refl) b ]), ordered-append xs ys o.1 u (λ a b i j. h a b (inr i) j))

  pub ordered-map : {Y : Type 0} (S : Y → Y → Type 0) (f : X → Y) → ((x y : X) → R x y → S (f x) (f y)) → (xs : List X) → Ordered R xs → Ordered S (map f xs)
  ordered-map S f h [] o = tt
  ordered-map S f h (x ∷ xs) o =
      ((λ y i. let m = in-map-from f xs y i in rw (← m.2) (h x m.0 (o.0 m.0 m.1))), ordered-map S f h xs o.1)

in-from-has : (b : List ℕ) (v : ℕ) → has v b ≡ true → In b v
in-from-has [] v h = absurd (both_ways false refl h)
in-from-has (w ∷ b) v h = elim (or_cases (eqb v w) _ h) [ inl t ↦ inl (sym (eqb-true v w t)) | inr t ↦ inr (in-from-has b v t) ]

ordered-joined : (S : List ℕ → List ℕ → Type 0) (f : ℕ → List (List ℕ)) (B : ℕ → ℕ → Type 0)
    → ((v : ℕ) → Ordered S (f v)) → ((v w : ℕ) (x y : List ℕ) → B v w → In (f v) x → In (f w) y → S x y)
    → (b : List ℕ) → Ordered B b → Ordered S (joined f b)
ordered-joined S f B each across [] o = tt
ordered-joined S f B each across (v ∷ b) o =
    ordered-append S (f v) (joined f b) (each v) (ordered-joined S f B each across b o.1)
    (λ x y i j. let r = in-joined-from f b y j in across v r.0 x y (o.0 r.0 (in-from-has b r.0 r.1)) i r.2)

before_more : (b : List ℕ) (u v w : ℕ) → Before b v w → Before (u ∷ b) v w
before_more b u v w h = (suc h.0, suc h.1, omega (arith, h.2), omega (arith, h.3), h.4, h.5)

before-ordered : (b : List ℕ) → Ordered (Before b) b
before-ordered [] = tt
before-ordered (v ∷ b) = (
  (λ y i. let p = in-has b y i in (0, suc p.0, omega arith, omega (arith, p.1), refl, p.2 0)),
  ordered-weaker (Before b) (Before (v ∷ b)) (λ x y. before_more b v x y) b (before-ordered b),
)

-- us comes before vs: in the first list where they differ it has the earlier node
abbrev pub Sooner : List Copies → List ℕ → List ℕ → Type 0
Sooner [] us vs = ⊥
Sooner (b ∷ bs) [] vs = ⊥
Sooner (b ∷ bs) (u ∷ us) [] = ⊥
Sooner (b ∷ bs) (u ∷ us) (v ∷ vs) = Before b u v ⊎ ((u ≡ v) × Sooner bs us vs)

pub picks-ordered : (bs : List Copies) → Ordered (Sooner bs) (picks bs)
picks-ordered [] = ((λ y i. absurd i), tt)
picks-ordered (b ∷ bs) =
    ordered-joined (Sooner (b ∷ bs)) (λ v. map (λ vs. v ∷ vs) (picks bs)) (Before b)
    (λ v. ordered-map (Sooner bs) (Sooner (b ∷ bs)) (λ vs. v ∷ vs) (λ x y h. inr (refl, h)) (picks bs) (picks-ordered bs))
    (λ v w x y h i j.
    let m = in-map-from (λ vs. v ∷ vs) (picks bs) x i in
    let n = in-map-from (λ vs. w ∷ vs) (picks bs) y j in
    rw (← m.2, ← n.2) (inl h))
    b (before-ordered b)

abbrev Parted : List Copies → List ℕ → List ℕ → Type 0
Parted bs vs us =
    (i : ℕ) × (i < length bs) × ((j : ℕ) → j < i → get_or us j 0 ≡ get_or vs j 0) × Before (get_or bs i []) (get_or vs i 0) (get_or us i 0)

sooner-parted : (bs : List Copies) (vs us : List ℕ) → Sooner bs vs us → Parted bs vs us
sooner-parted [] vs us h = absurd h
sooner-parted (b ∷ bs) [] us h = absurd h
sooner-parted (b ∷ bs) (v ∷ vs) [] h = absurd h
sooner-parted (b ∷ bs) (v ∷ vs) (u ∷ us) (inl h) = (0, omega arith, (λ j l. absurd (omega arith)), h)
sooner-parted (b ∷ bs) (v ∷ vs) (u ∷ us) (inr h) =
    let p = sooner-parted bs vs us h.1 in (suc p.0, omega (arith, p.1), below p.0 p.2, p.3)
  where
    below : (i : ℕ) → ((j : ℕ) → j < i → get_or us j 0 ≡ get_or vs j 0) → (j : ℕ) → j < suc i → get_or (u ∷ us) j 0 ≡ get_or (v ∷ vs) j 0
    below i g zero l = sym h.0
    below i g (suc j) l = g j (omega arith)

pub head_first : (s : Site) (c : ℕ) (bs : List Copies) (vs : List ℕ) (more : List (List ℕ)) → choices s c bs ≡ vs ∷ more → First s c bs vs
head_first s c bs vs more e =
    let o : Ordered (Sooner bs) (vs ∷ more) = rw e at (ordered-kept-by (Sooner bs) (fits s c) (picks bs) (picks-ordered bs)) in
    record {
      choice = in-choices-from s c bs vs (rw e (inl refl));
      earliest = λ us h ne.
          let i : (vs ≡ us) ⊎ In more us = rw e at (in-choices s c bs us h) in
          elim i [ inl q ↦ absurd (ne (sym q)) | inr j ↦ sooner-parted bs vs us (o.0 us j) ];
    }

-- none, or a first
pub empty-or : (xs : List (List ℕ)) → (xs ≡ []) ⊎ ((x : List ℕ) × (more : List (List ℕ)) × (xs ≡ x ∷ more))
empty-or [] = inl refl
empty-or (x ∷ xs) = inr (x, xs, refl)

module _ (s : Site) (c : ℕ) (bs : List Copies) where
  pub empty-none : choices s c bs ≡ [] → (vs : List ℕ) → Choice s c bs vs → ⊥
  empty-none e vs h = let i : In [] vs = rw e at (in-choices s c bs vs h) in i

  pub none-empty : ((vs : List ℕ) → Choice s c bs vs → ⊥) → choices s c bs ≡ []
  none-empty h =
      elim (empty-or (choices s c bs)) [
        | inl e ↦ e
        | inr m ↦ absurd (h m.0 (in-choices-from s c bs m.0 (rw m.2 (inl refl))))
      ]

  -- where there is a choice, the head of the list is one
  pub first-choice : (choices s c bs ≡ [] → ⊥) → Choice s c bs (first_of (choices s c bs))
  first-choice h =
      elim (empty-or (choices s c bs)) [
        | inl e ↦ absurd (h e)
        | inr m ↦ rw m.2 (head_first s c bs m.0 m.1 m.2).choice
      ]

  pub first-first : (choices s c bs ≡ [] → ⊥) → First s c bs (first_of (choices s c bs))
  first-first h =
      elim (empty-or (choices s c bs)) [
        | inl e ↦ absurd (h e)
        | inr m ↦ rw m.2 (head_first s c bs m.0 m.1 m.2)
      ]

cases-list : (us vs : List ℕ) → (us ≡ vs) ⊎ (us ≡ vs → ⊥)
cases-list [] [] = inl refl
cases-list [] (v ∷ vs) = inr (λ e. let z : ◌≡◌ {A = ℕ} 0 1 = cc in omega arith)
cases-list (u ∷ us) [] = inr (λ e. let z : ◌≡◌ {A = ℕ} 0 1 = cc in omega arith)
cases-list (u ∷ us) (v ∷ vs) =
    elim (cases_eq u v) [
      | inl p ↦
          elim (cases-list us vs) [
            | inl q ↦ inl (ap₂ (λ x y. x ∷ y) p q)
            | inr q ↦ inr (λ e. let z : us ≡ vs = cc in q z)
          ]
      | inr p ↦ inr (λ e. let z : u ≡ v = cc in p z)
    ]

module _ (b : List ℕ) (alone : apart b ≡ true) where
  before-differ : (v w : ℕ) → Before b v w → v ≡ w → ⊥
  before-differ v w h e =
      let z : h.0 ≡ h.1 = apart-differ b alone h.0 h.1 (omega (arith, h.2, h.3)) h.3 (h.4 ∙ e ∙ sym h.5) in
      omega (arith, h.2)

  before-asym : (v w : ℕ) → Before b v w → Before b w v → ⊥
  before-asym v w h g =
      let a : h.0 ≡ g.1 = apart-differ b alone h.0 g.1 (omega (arith, h.2, h.3)) g.3 (h.4 ∙ sym g.5) in
      let z : h.1 ≡ g.0 = apart-differ b alone h.1 g.0 h.3 (omega (arith, g.2, g.3)) (h.5 ∙ sym g.4) in
      omega (arith, h.2, g.2)

module _ (s : Site) (c : ℕ) (bs : List Copies) (vs : List ℕ) (alone : (b : List ℕ) → Has bs b → apart b ≡ true) where
  at_place : (i : ℕ) → i < length bs → apart (get_or bs i []) ≡ true
  at_place i l = alone (get_or bs i []) (has_get_or bs i [] l)

  parted-once : (us : List ℕ) → Parted bs vs us → Parted bs us vs → ⊥
  parted-once us p q =
      elim (cases_order p.0 q.0) [
        | inl e ↦
            before-asym (get_or bs p.0 []) (at_place p.0 p.1) (get_or vs p.0 0) (get_or us p.0 0) p.3
            (rw e q.3)
        | inr n ↦
            elim n [
              | inl l ↦ before-differ (get_or bs p.0 []) (at_place p.0 p.1) (get_or vs p.0 0) (get_or us p.0 0) p.3 (q.2 p.0 l)
              | inr l ↦ before-differ (get_or bs q.0 []) (at_place q.0 q.1) (get_or us q.0 0) (get_or vs q.0 0) q.3 (p.2 q.0 l)
            ]
      ]

  pub first-unique : (us : List ℕ) → First s c bs vs → First s c bs us → us ≡ vs
  first-unique us f g =
      elim (cases-list us vs) [
        | inl e ↦ e
        | inr ne ↦ absurd (parted-once us (f.earliest us g.choice ne) (g.earliest vs f.choice (λ e. ne (sym e))))
      ]

  pub first_head : First s c bs vs → (more : List (List ℕ)) × (choices s c bs ≡ vs ∷ more)
  first_head f =
      elim (empty-or (choices s c bs)) [
        | inl e ↦ absurd (empty-none s c bs e vs f.choice)
        | inr m ↦ (m.1, m.2 ∙ ap (λ x. x ∷ m.1) (first-unique m.0 f (head_first s c bs m.0 m.1 m.2)))
      ]
