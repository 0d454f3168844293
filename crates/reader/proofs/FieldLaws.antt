-- The field under a name.
use Rattle.std.proofs.Common.{◌≡◌, ℕ, suc, ◌+◌, true, false, cond, eqb, List, [], ◌∷◌, map, length, drop, Some, None, Option, MatchOption, slice_get, refl, ap, ◌∙◌, subst, inl, inr, ⊎_elim, arith, Bor}
use Rattle.std.specs.Option.{option_map}
use Rattle.std.specs.List.{position_from}
use Rattle.std.proofs.lemmas.Bool.{or_cases, cases_eq, eq-eqb, ne_eqb, and_parts, not-true, both_ways, or_left, or_right}
use Rattle.text.specs.Cells.{Cell, cells, cells_from}
use Rattle.text.specs.Faults.{at}
use Rattle.text.specs.Orders.{elem, distinct}
use Rattle.text.specs.Pieces.{parted}
use Rattle.text.specs.declared.fault.FaultKind.TheVariants.{Count}
use Rattle.reader.specs.declared.form.Form.{Form}
use Rattle.reader.specs.Wants.{want_of, Fit}
use Rattle.reader.specs.Rows.{named, FaultAt, RowFault, Clean, held}

abbrev pub bytes_of : List Cell → List (List ℕ)
bytes_of [] = []
bytes_of (c ∷ cs) = c.bytes ∷ bytes_of cs

pub bytes-from : (column : ℕ) (fs : List (List ℕ)) → bytes_of (cells_from column fs) ≡ fs
bytes-from column [] = refl
bytes-from column (f ∷ fs) = ap (λ l. f ∷ l) (bytes-from (column + (length f + 1)) fs)

-- the field under a name stands where the name stands among the names
abbrev Placed : ℕ → ℕ → List ℕ → List (List ℕ) → Option ℕ → Type 0
Placed name k is fs r = MatchOption r (named is name fs ≡ None) (λ at. (j : ℕ) × (at ≡ k + j) × (named is name fs ≡ slice_get fs j))

placed : (name k : ℕ) (is : List ℕ) (fs : List (List ℕ)) → Placed name k is fs (position_from (λ i. eqb i name) k is)
placed name k [] fs = refl
placed name k (i ∷ is) fs =
    elim (eqb i name) as (λ b. eqb i name ≡ b → Placed name k (i ∷ is) fs (cond b (Some k) (position_from (λ i. eqb i name) (k + 1) is))) [
      | true ↦ λ t. (0, omega arith, here fs t)
      | false ↦ λ t. past fs t (position_from (λ i. eqb i name) (k + 1) is) (placed name (k + 1) is (drop 1 fs))
    ] refl where
      here : (fs : List (List ℕ)) → eqb i name ≡ true → named (i ∷ is) name fs ≡ slice_get fs 0
      here [] t = refl
      here (f ∷ fs) t = ap (λ b. cond b (Some f) (named is name fs)) t

      past : (fs : List (List ℕ)) → eqb i name ≡ false → (r : Option ℕ) → Placed name (k + 1) is (drop 1 fs) r → Placed name k (i ∷ is) fs r
      past [] t None p = refl
      past [] t (Some at) p = (suc p.0, omega (arith, p.1), refl)
      past (f ∷ fs) t None p = ap (λ b. cond b (Some f) (named is name fs)) t ∙ p
      past (f ∷ fs) t (Some at) p = (suc p.0, omega (arith, p.1), ap (λ b. cond b (Some f) (named is name fs)) t ∙ p.2)

pub named-some : (is : List ℕ) (name : ℕ) (fs : List (List ℕ)) (at : ℕ) → position_from (λ i. eqb i name) 0 is ≡ Some at → named is name fs ≡ slice_get fs at
named-some is name fs at e =
    let p = subst (Placed name 0 is fs) e (placed name 0 is fs) in
    let same : p.0 ≡ at = omega (arith, p.1) in
    p.2 ∙ ap (slice_get fs) same

pub named-none : (is : List ℕ) (name : ℕ) (fs : List (List ℕ)) → position_from (λ i. eqb i name) 0 is ≡ None → named is name fs ≡ None
named-none is name fs e = subst (Placed name 0 is fs) e (placed name 0 is fs)

pub held-map : (o : Option (Bor (List ℕ))) → held o ≡ option_map (λ x. x.now) o
held-map None = refl
held-map (Some bytes) = refl

pub held-some : (o : Option (Bor (List ℕ))) (f : List ℕ) → held o ≡ Some f → (b : Bor (List ℕ)) × (o ≡ Some b) × (b.now ≡ f)
held-some None f e = let z : ◌≡◌ {A = ℕ} 0 1 = cc in absurd (omega arith)
held-some (Some b) f e = (b, refl, same_some b.now f e) where
  same_some : (x y : List ℕ) → Some x ≡ Some y → x ≡ y
  same_some x y e = cc

-- a field under each name, and each is what is wanted
abbrev pub FitsRow : Form → List ℕ → List (List ℕ) → Type 0
FitsRow form [] [] = Unit {0}
FitsRow form [] (f ∷ fs) = ⊥
FitsRow form (i ∷ is) [] = ⊥
FitsRow form (i ∷ is) (f ∷ fs) = Fit (want_of form i) f × FitsRow form is fs

fits-row : (form : Form) (line end : ℕ) (is : List ℕ) (cs : List Cell) → Clean (FaultAt form line end is cs) → FitsRow form is (bytes_of cs)
fits-row form line end [] [] clean = tt
fits-row form line end [] (c ∷ cs) clean = absurd (clean (at Count line c.column) (inl refl))
fits-row form line end (i ∷ is) [] clean = absurd (clean (at Count line end) refl)
fits-row form line end (i ∷ is) (c ∷ cs) clean = ((λ k m. clean (at k line c.column) (inl (k, m, refl))), fits-row form line end is cs (λ f h. clean f (inr h)))

pub row_fits : (form : Form) (is : List ℕ) (line : ℕ) (bs : List ℕ) → Clean (RowFault form is line bs) → FitsRow form is (parted 44 bs)
row_fits form is line bs clean = subst (FitsRow form is) (bytes-from 1 (parted 44 bs)) (fits-row form line (1 + length bs) is (cells bs) clean)

-- where the field under each name is its text, the fields are the texts in the names' order
pub row-text : (form : Form) (t : ℕ → List ℕ) (is : List ℕ) (fs : List (List ℕ)) → distinct is ≡ true → FitsRow form is fs → ((j : ℕ) (g : List ℕ) → elem j is ≡ true → named is j fs ≡ Some g → Fit (want_of form j) g → g ≡ t j) → fs ≡ map t is
row-text form t [] [] d fits said = refl
row-text form t [] (f ∷ fs) d fits said = absurd fits
row-text form t (i ∷ is) [] d fits said = absurd fits
row-text form t (i ∷ is) (f ∷ fs) d fits said =
    let new = not-true (elem i is) (and_parts _ _ d).0 in
    let here : f ≡ t i = said i f (or_left (eqb i i) (elem i is) (eq-eqb i i refl)) (ap (λ b. cond b (Some f) (named is i fs)) (eq-eqb i i refl)) fits.0 in
    let more : fs ≡ map t is =
    row-text form t is fs (and_parts _ _ d).1 fits.1 (λ j g e n fit.
    let other : i ≡ j → ⊥ = λ s. both_ways (elem i is) new (ap (λ k. elem k is) s ∙ e) in
    said j g (or_right (eqb i j) (elem j is) e) (ap (λ b. cond b (Some f) (named is j fs)) (ne_eqb i j other) ∙ n) fit) in
    (λ x. here x ∷ more x)

-- the field under a name that is there
pub named-fits : (form : Form) (j : ℕ) (is : List ℕ) (fs : List (List ℕ)) → elem j is ≡ true → FitsRow form is fs → (g : List ℕ) × (named is j fs ≡ Some g) × Fit (want_of form j) g
named-fits form j [] fs e fits = absurd (both_ways false refl e)
named-fits form j (i ∷ is) [] e fits = absurd fits
named-fits form j (i ∷ is) (f ∷ fs) e fits =
    ⊎_elim
    (λ p. (f, ap (λ b. cond b (Some f) (named is j fs)) (eq-eqb i j p), subst (λ k. Fit (want_of form k) f) p fits.0))
    (λ p.
    let other : eqb i j ≡ false = ne_eqb i j p in
    let more = named-fits form j is fs (⊎_elim (λ q. absurd (both_ways (eqb i j) other q)) (λ q. q) (or_cases (eqb i j) (elem j is) e)) fits.1 in
    (more.0, ap (λ b. cond b (Some f) (named is j fs)) other ∙ more.1, more.2))
    (cases_eq i j)
