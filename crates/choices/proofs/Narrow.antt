-- The first choice without listing the choices. Block after block, a list is narrowed to its earliest node that leaves a choice
-- for all; that keeps the first choice, and once every list has one node it is those nodes.
use Rattle.std.proofs.Common.{◌≡◌, ℕ, zero, suc, ◌+◌, ◌<◌, Bool, true, false, eqb, List, [], ◌∷◌, ◌++◌, map, length, get_or, set, filter, sym, refl, ap, ◌∙◌, inl, inr, arith}
use Rattle.std.proofs.lemmas.List.{append-nil, map-append, length-set, get_or-set_same, get_or-set_other}
use Rattle.std.proofs.lemmas.List.Elements.{filter-append}
use Rattle.std.proofs.lemmas.Bool.{cases_eq, eqb-true, eq-eqb, or_cases, or_left, both_ways}
use Rattle.site.specs.Site.{Site}
use Rattle.choices.specs.Choice.{Copies, Choice, has, fits, joined, picks, choices}
use Rattle.choices.specs.Plan.{first_of}
use Rattle.choices.specs.Order.{Narrowed, narrow, Narrowing}
use Rattle.choices.proofs.Nodes.{has-place}
use Rattle.choices.proofs.Exact.{In, in-kept-by-from, in-choices}
use Rattle.choices.proofs.Head.{empty-none, none-empty, first-choice}

-- joined lists
pub joined_same : (f g : ℕ → List (List ℕ)) → ((v : ℕ) → f v ≡ g v) → (b : List ℕ) → joined f b ≡ joined g b
joined_same f g h [] = refl
joined_same f g h (v ∷ b) = let e = h v in let i = joined_same f g h b in cc

pub map-joined : (g : List ℕ → List ℕ) (f : ℕ → List (List ℕ)) (b : List ℕ) → map g (joined f b) ≡ joined (λ v. map g (f v)) b
map-joined g f [] = refl
map-joined g f (v ∷ b) = map-append g (f v) (joined f b) ∙ ap (λ x. map g (f v) ++ x) (map-joined g f b)

pub kept-by-joined : (p : List ℕ → Bool) (f : ℕ → List (List ℕ)) (b : List ℕ) → filter p (joined f b) ≡ joined (λ v. filter p (f v)) b
kept-by-joined p f [] = refl
kept-by-joined p f (v ∷ b) = filter-append p (f v) (joined f b) ∙ ap (λ x. filter p (f v) ++ x) (kept-by-joined p f b)

-- the first part that is not empty begins the whole
joined-from : (f : ℕ → List (List ℕ)) (b : List ℕ) (j : ℕ) → j < length b → ((k : ℕ) → k < j → f (get_or b k 0) ≡ [])
    → (more : List (List ℕ)) × (joined f b ≡ f (get_or b j 0) ++ more)
joined-from f [] j l h = absurd (omega arith)
joined-from f (v ∷ b) zero l h = (joined f b, refl)
joined-from f (v ∷ b) (suc j) l h =
    let r = joined-from f b j (omega arith) (λ k m. h (suc k) (omega arith)) in
    (r.0, ap (λ x. x ++ joined f b) (h 0 (omega arith)) ∙ r.1)

joined-empty : (f : ℕ → List (List ℕ)) (b : List ℕ) → ((k : ℕ) → k < length b → f (get_or b k 0) ≡ []) → joined f b ≡ []
joined-empty f [] h = refl
joined-empty f (v ∷ b) h =
    ap (λ x. x ++ joined f b) (h 0 (omega arith)) ∙ joined-empty f b (λ k m. h (suc k) (omega arith))

picks-one : (b : List ℕ) (bs : List Copies) → length b ≡ 1 → picks (b ∷ bs) ≡ map (λ vs. get_or b 0 0 ∷ vs) (picks bs)
picks-one [] bs e = absurd (omega arith)
picks-one (w ∷ []) bs e = append-nil (map (λ vs. w ∷ vs) (picks bs))
picks-one (w ∷ x ∷ b) bs e = absurd (omega arith)

-- the picks by the node of the first list that is not narrowed yet
picks-split : (bs : List Copies) (i : ℕ) → i < length bs → Narrowed bs i → picks bs ≡ joined (λ v. picks (set bs i (v ∷ []))) (get_or bs i [])
picks-split [] i l h = absurd (omega arith)
picks-split (b ∷ bs) zero l h =
    joined_same (λ v. map (λ vs. v ∷ vs) (picks bs)) (λ v. picks ((v ∷ []) ∷ bs)) (λ v. sym (append-nil (map (λ vs. v ∷ vs) (picks bs)))) b
picks-split (b ∷ bs) (suc i) l h =
    let one = h 0 (omega arith) in
    picks-one b bs one
    ∙ ap (map (λ vs. get_or b 0 0 ∷ vs)) (picks-split bs i (omega arith) (λ k m. h (suc k) (omega arith)))
    ∙ map-joined (λ vs. get_or b 0 0 ∷ vs) (λ v. picks (set bs i (v ∷ []))) (get_or bs i [])
    ∙ joined_same _ _ (λ v. sym (picks-one b (set bs i (v ∷ [])) one)) (get_or bs i [])

narrowed-picks : (bs : List Copies) → Narrowed bs (length bs) → picks bs ≡ map (λ b. get_or b 0 0) bs ∷ []
narrowed-picks [] h = refl
narrowed-picks (b ∷ bs) h =
    picks-one b bs (h 0 (omega arith)) ∙ ap (map (λ vs. get_or b 0 0 ∷ vs)) (narrowed-picks bs (λ k m. h (suc k) (omega arith)))

first-append : (xs more : List (List ℕ)) → (xs ≡ [] → ⊥) → first_of (xs ++ more) ≡ first_of xs
first-append [] more h = absurd (h refl)
first-append (x ∷ xs) more h = refl

pub narrowed_none : (bs : List Copies) → Narrowed bs 0
narrowed_none bs k l = absurd (omega arith)

pub narrowed-more : (bs : List Copies) (i v : ℕ) → i < length bs → Narrowed bs i → Narrowed (set bs i (v ∷ [])) (i + 1)
narrowed-more bs i v l h k m =
    elim (cases_eq k i) [
      | inl e ↦ rw e (rw (get_or-set_same bs i (v ∷ []) [] l) refl)
      | inr ne ↦ rw (get_or-set_other bs i k (v ∷ []) [] ne) (h k (omega arith))
    ]

-- the same nodes from other lists that have them
pub choice-lists : (s : Site) (c : ℕ) (bs ds : List Copies) (vs : List ℕ) → length ds ≡ length bs
    → ((i : ℕ) → i < length ds → has (get_or vs i 0) (get_or ds i []) ≡ true) → Choice s c bs vs → Choice s c ds vs
choice-lists s c bs ds vs e has' h = record {
  long = h.long ∙ sym e;
  listed = has';
  kept = λ i l. h.kept i (rw e at l);
  differ = λ i j l m. h.differ i j (rw e at l) (rw e at m);
  spread = λ r. rw e (h.spread r);
}

-- a list narrowed to its node of the choice, and widened again
pub choice-narrow : (s : Site) (c : ℕ) (bs : List Copies) (vs : List ℕ) (i : ℕ) → i < length bs → Choice s c bs vs → Choice s c (set bs i (get_or vs i 0 ∷ [])) vs
choice-narrow s c bs vs i l h =
    choice-lists s c bs (set bs i (get_or vs i 0 ∷ [])) vs (length-set bs i (get_or vs i 0 ∷ []))
    (λ k m. elim (cases_eq k i) [
      | inl e ↦ rw (e, get_or-set_same bs i (get_or vs i 0 ∷ []) [] l) (or_left (eqb (get_or vs i 0) (get_or vs i 0)) _ (eq-eqb (get_or vs i 0) (get_or vs i 0) refl))
      | inr ne ↦ rw (get_or-set_other bs i k (get_or vs i 0 ∷ []) [] ne) (h.listed k (rw (length-set bs i (get_or vs i 0 ∷ [])) at m))
    ]) h

pub choice-widen : (s : Site) (c : ℕ) (bs : List Copies) (vs : List ℕ) (i v : ℕ) → i < length bs → has v (get_or bs i []) ≡ true
    → Choice s c (set bs i (v ∷ [])) vs → Choice s c bs vs
choice-widen s c bs vs i v l t h =
    choice-lists s c (set bs i (v ∷ [])) bs vs (sym (length-set bs i (v ∷ [])))
    (λ k m.
    let g = h.listed k (rw (length-set bs i (v ∷ [])) m) in
    elim (cases_eq k i) [
      | inl e ↦
          let g' : has (get_or vs i 0) (v ∷ []) ≡ true = rw (e, get_or-set_same bs i (v ∷ []) [] l) at g in
          elim (or_cases (eqb (get_or vs i 0) v) false g') [
            | inl q ↦ rw (e, eqb-true (get_or vs i 0) v q) t
            | inr q ↦ absurd (both_ways false refl q)
          ]
      | inr ne ↦ rw (get_or-set_other bs i k (v ∷ []) [] ne) at g
    ]) h

module _ (s : Site) (c : ℕ) (bs : List Copies) (i : ℕ) (l : i < length bs) (h : Narrowed bs i) where
  -- the choices by the node of the first list that is not narrowed yet
  pub choices-split : choices s c bs ≡ joined (λ v. choices s c (set bs i (v ∷ []))) (get_or bs i [])
  choices-split = ap (filter (fits s c)) (picks-split bs i l h) ∙ kept-by-joined (fits s c) (λ v. picks (set bs i (v ∷ []))) (get_or bs i [])

  -- the step: no choice with an earlier node of list i, and one with the node at j
  pub narrow_keeps : (j : ℕ) → j < length (get_or bs i []) → ((k : ℕ) → k < j → (vs : List ℕ) → Choice s c (narrow bs i k) vs → ⊥)
      → (us : List ℕ) → Choice s c (narrow bs i j) us → first_of (choices s c (narrow bs i j)) ≡ first_of (choices s c bs)
  narrow_keeps j m before us u =
      let f : ℕ → List (List ℕ) = λ v. choices s c (set bs i (v ∷ [])) in
      let r = joined-from f (get_or bs i []) j m (λ k n. none-empty s c (narrow bs i k) (before k n)) in
      sym (ap first_of (choices-split ∙ r.1)
      ∙ first-append (choices s c (narrow bs i j)) r.0 (λ e. empty-none s c (narrow bs i j) e us u))

  -- no choice with any node of list i: none at all
  pub narrow-stuck : ((k : ℕ) → k < length (get_or bs i []) → (vs : List ℕ) → Choice s c (narrow bs i k) vs → ⊥)
      → (vs : List ℕ) → Choice s c bs vs → ⊥
  narrow-stuck none =
      empty-none s c bs
      (choices-split
      ∙ joined-empty (λ v. choices s c (set bs i (v ∷ []))) (get_or bs i [])
      (λ k n. none-empty s c (narrow bs i k) (none k n)))

module _ (s : Site) (c : ℕ) (bs : List Copies) (h : Narrowed bs (length bs)) where
  -- the end: every list has one node, and a choice is those nodes
  pub narrowed-nodes : (vs : List ℕ) → Choice s c bs vs → vs ≡ map (λ b. get_or b 0 0) bs
  narrowed-nodes vs u =
      let i : In (map (λ b. get_or b 0 0) bs ∷ []) vs = rw (narrowed-picks bs h) at (in-kept-by-from (fits s c) (picks bs) vs (in-choices s c bs vs u)).0 in
      elim i [ inl e ↦ sym e | inr z ↦ absurd z ]

  pub narrow-ends : (vs : List ℕ) → Choice s c bs vs → first_of (choices s c bs) ≡ vs
  narrow-ends vs u =
      let o = first-choice s c bs (λ e. empty-none s c bs e vs u) in
      narrowed-nodes (first_of (choices s c bs)) o ∙ sym (narrowed-nodes vs u)

-- some node of a list leaves a choice: that which a choice in hand has
pub narrow-found : (s : Site) (c : ℕ) (bs : List Copies) (vs : List ℕ) (i : ℕ) → i < length bs → Choice s c bs vs
    → (j : ℕ) × (j < length (get_or bs i [])) × Choice s c (narrow bs i j) vs
narrow-found s c bs vs i l h =
    let p = has-place (get_or vs i 0) (get_or bs i []) (h.listed i l) in
    (p.0, p.1, rw p.2 (choice-narrow s c bs vs i l h))

-- the whole way: the start, a block, the end
module _ (s : Site) (c : ℕ) (bs : List Copies) where
  pub narrowing_none : (vs : List ℕ) → Choice s c bs vs → Narrowing s c bs bs 0 vs
  narrowing_none vs h = record { long = refl; narrowed = narrowed_none bs; first = refl; choice = h }

  pub narrowing-more : (ds : List Copies) (i j : ℕ) (vs us : List ℕ) → Narrowing s c bs ds i vs → i < length bs → j < length (get_or ds i [])
      → ((k : ℕ) → k < j → (ws : List ℕ) → Choice s c (narrow ds i k) ws → ⊥) → Choice s c (narrow ds i j) us → Narrowing s c bs (narrow ds i j) (i + 1) us
  narrowing-more ds i j vs us n l m before h =
      let l' : i < length ds = rw n.long l in
      record {
        long = length-set ds i (get_or (get_or ds i []) j 0 ∷ []) ∙ n.long;
        narrowed = narrowed-more ds i (get_or (get_or ds i []) j 0) l' n.narrowed;
        first = narrow_keeps s c ds i l' n.narrowed j m before us h ∙ n.first;
        choice = h;
      }

  pub narrowing-all : (ds : List Copies) (vs : List ℕ) → Narrowing s c bs ds (length bs) vs → first_of (choices s c bs) ≡ vs
  narrowing-all ds vs n = sym n.first ∙ narrow-ends s c ds (rw n.long n.narrowed) vs n.choice
