-- The earliest fault of a line: a fault of what is left of the line lies further on, or is a missing value at its end.
use Rattle.std.proofs.Common.{◌≡◌, ℕ, ◌+◌, ◌<◌, ◌≤◌, ◌⊎◌, List, [], ◌∷◌, length, get_or, drop, Some, None, Option, sym, refl, ap, ◌∙◌, subst, inl, inr, ⊎_elim, arith, length-append, Bor}
use Rattle.std.proofs.lemmas.List.{at_drop_more, at_drop_all}
use Rattle.text.specs.Cells.{Cell, cells, cells_from, cells_left, end_of, NextToken}
use Rattle.text.specs.Faults.{at, number_of, NotAfter, Least}
use Rattle.text.specs.Pieces.{pieces, rest, glued, length_of}
use Rattle.text.specs.declared.place.Place.{Place}
use Rattle.text.specs.declared.lexer.Lexer.{Lexer}
use Rattle.text.specs.declared.lexer.Token.TheVariants as token
use Rattle.text.specs.declared.fault.Fault.{Fault}
use Rattle.text.specs.declared.fault.FaultKind.{FaultKind}
use Rattle.text.specs.declared.fault.FaultKind.TheVariants.{Count}
use Rattle.text.proofs.GlueLaws.{glued-pieces}
use Rattle.text.proofs.PieceLaws.{pieces_are}
use Rattle.text.proofs.NumberLaws.{not-empty}
use Rattle.reader.specs.declared.form.Form.{Form}
use Rattle.reader.specs.declared.form.Want.{Want}
use Rattle.reader.specs.declared.form.Want.TheVariants.{Number, Next, Keep, Letter, Nodes, Nothing, Anything}
use Rattle.reader.specs.Wants.{want_of, Misfit, Fit}
use Rattle.reader.specs.Rows.{FaultAt, RowFault, Clean}

-- the columns rise from lo, and no field reaches past the line's end
abbrev pub Rises : ℕ → List Cell → ℕ → Type 0
Rises lo [] end = Unit {0}
Rises lo (c ∷ cs) end = (lo ≤ c.column) × (c.column + length c.bytes ≤ end) × Rises (c.column + 1) cs end

rises-down : (lo mid end : ℕ) (cs : List Cell) → lo ≤ mid → Rises mid cs end → Rises lo cs end
rises-down lo mid end [] h r = tt
rises-down lo mid end (c ∷ cs) h r = (omega (arith, r.0), r.1, r.2)

from-rises : (column : ℕ) (p : List ℕ) (ps : List (List ℕ)) (end : ℕ) → column + length (glued 44 (p ∷ ps)) ≤ end → Rises column (cells_from column (p ∷ ps)) end
from-rises column p [] end h = (omega arith, omega (arith, length-append p []), tt)
from-rises column p (q ∷ qs) end h =
    let l = length-append p (44 ∷ glued 44 (q ∷ qs)) in
    let more : column + (length p + 1) + length (glued 44 (q ∷ qs)) ≤ end = omega (arith, l) in
    (omega arith, omega (arith, l), rises-down (column + 1) (column + (length p + 1)) end (cells_from (column + (length p + 1)) (q ∷ qs)) (omega arith) (from-rises (column + (length p + 1)) q qs end more))

pieces-rise : (column : ℕ) (bs : List ℕ) → Rises column (cells_from column (pieces 44 bs)) (column + length bs)
pieces-rise column bs =
    pieces_are (λ ps. glued 44 ps ≡ bs → Rises column (cells_from column ps) (column + length bs)) 44 bs
    (λ p ps e. from-rises column p ps (column + length bs) (omega (arith, ap length e))) (glued-pieces 44 bs)

left-rises : (column : ℕ) (left : Option (Bor (List ℕ))) → Rises column (cells_from column (rest 44 left)) (column + length_of left)
left-rises column None = tt
left-rises column (Some bytes) = pieces-rise column bytes.now

pub lexer-rises : (l : Lexer) → Rises l.place.column (cells_left l) (end_of l)
lexer-rises l = left-rises l.place.column l.left

pub cells-rise : (bs : List ℕ) → Rises 1 (cells bs) (1 + length bs)
cells-rise [] = tt
cells-rise (b ∷ bs) = pieces-rise 1 (b ∷ bs)

-- a fault that is told after a missing value at the same place is of a field that is not empty
misfit-kind : (w : Want) (bs : List ℕ) (k : FaultKind) → Misfit w bs k → (number_of k ≤ 12) ⊎ (0 < length bs)
misfit-kind (Number limit) bs k m = inl (omega (arith, ap number_of m.0))
misfit-kind (Next count) bs k m = ⊎_elim (λ p. inl (omega (arith, ap number_of p.0))) (λ p. inr (not-empty bs p.1.0 (omega (arith, p.1.1)) p.1.2)) m
misfit-kind Keep bs k m = inl (omega (arith, ap number_of m.0))
misfit-kind Letter bs k m = inl (omega (arith, ap number_of m.0))
misfit-kind Nodes bs k m = inl (omega (arith, ap number_of m.0))
misfit-kind Nothing bs k m = inl (omega (arith, ap number_of m.0))
misfit-kind Anything bs k m = absurd m

-- where a fault of what is left lies
abbrev Further : ℕ → ℕ → ℕ → Fault → Type 0
Further line end lo f = (f.place.line ≡ line) × ((lo ≤ f.place.column) ⊎ ((f.place.column ≡ end) × (number_of f.kind ≡ 12)))

further-down : (line end lo mid : ℕ) (f : Fault) → lo ≤ mid → Further line end mid f → Further line end lo f
further-down line end lo mid f h r = (r.0, ⊎_elim (λ q. inl (omega (arith, q))) inr r.1)

pub later : (form : Form) (line end lo : ℕ) (is : List ℕ) (cs : List Cell) (f : Fault) → Rises lo cs end → FaultAt form line end is cs f → Further line end lo f
later form line end lo [] [] f r h = absurd h
later form line end lo [] (c ∷ cs) f r h =
    ⊎_elim
    (λ p. (ap (λ x. x.place.line) p, inl (omega (arith, r.0, ap (λ x. x.place.column) p))))
    (λ p. further-down line end lo (c.column + 1) f (omega (arith, r.0)) (later form line end (c.column + 1) [] cs f r.2 p))
    h
later form line end lo (i ∷ is) [] f r h = (ap (λ x. x.place.line) h, inr (ap (λ x. x.place.column) h, ap (λ x. number_of x.kind) h))
later form line end lo (i ∷ is) (c ∷ cs) f r h =
    ⊎_elim
    (λ p. (ap (λ x. x.place.line) p.2, inl (omega (arith, r.0, ap (λ x. x.place.column) p.2))))
    (λ p. further-down line end lo (c.column + 1) f (omega (arith, r.0)) (later form line end (c.column + 1) is cs f r.2 p))
    h

pub same-not-after : (f g : Fault) → f ≡ g → NotAfter f g
same-not-after f g e = inr (ap (λ x. x.place.line) e, inr (ap (λ x. x.place.column) e, omega (arith, ap (λ x. number_of x.kind) e)))

or-after : (a b m n : ℕ) → a ≤ b → (m ≤ n) ⊎ (a < b) → (a < b) ⊎ ((a ≡ b) × (m ≤ n))
or-after a b m n h k = grind arith

-- the fault of the first field, if the others are of the fields that follow
pub least-here : (P : Fault → Type 0) (form : Form) (line end : ℕ) (is : List ℕ) (c : Cell) (cs : List Cell) (lo : ℕ) (k : FaultKind) → Rises lo (c ∷ cs) end → (number_of k ≤ 12) ⊎ (0 < length c.bytes) → P (at k line c.column) → ((g : Fault) → P g → (g ≡ at k line c.column) ⊎ FaultAt form line end is cs g) → Least P (at k line c.column)
least-here P form line end is c cs lo k r small here others = record {
  there = here;
  first = λ g p. ⊎_elim (λ e. same-not-after _ g (sym e)) (λ q.
      let i = later form line end (c.column + 1) is cs g r.2 q in
      inr (sym i.0, ⊎_elim (λ x. inl (omega (arith, x))) (λ x. or-after _ _ _ _ (omega (arith, x.0, r.1)) (⊎_elim (λ s. inl (omega (arith, s, x.1))) (λ s. inr (omega (arith, s, x.0, r.1))) small)) i.1)) (others g p);
}

-- the two have the same faults
abbrev pub Same : (Fault → Type 0) → (Fault → Type 0) → Type 0
Same P Q = (f : Fault) → (P f → Q f) × (Q f → P f)

pub least-same : (P Q : Fault → Type 0) (f : Fault) → Same P Q → Least P f → Least Q f
least-same P Q f s l = record { there = (s f).0 l.there; first = λ g q. l.first g ((s g).1 q) }

pub clean-same : (P Q : Fault → Type 0) → Same P Q → Clean P → Clean Q
clean-same P Q s c f q = c f ((s f).1 q)

pub same_then : (P Q R : Fault → Type 0) → Same P Q → Same Q R → Same P R
same_then P Q R s t f = ((λ p. (t f).0 ((s f).0 p)), λ r. (s f).1 ((t f).1 r))

-- the next name of an order, or none
module _ (form : Form) (line end : ℕ) (order : List ℕ) (n : ℕ) (cs : List Cell) (Q : Fault → Type 0) (inv : Same (FaultAt form line end (drop n order) cs) Q) where
  pub at_name : n < length order → Same (FaultAt form line end (get_or order n 0 ∷ drop (n + 1) order) cs) Q
  at_name h = subst (λ is. Same (FaultAt form line end is cs) Q) (at_drop_more (λ l. l) order n 0 h) inv

  pub at-end : length order ≤ n → Same (FaultAt form line end [] cs) Q
  at-end h = subst (λ is. Same (FaultAt form line end is cs) Q) (at_drop_all (λ l. l) order n h) inv

module _ (form : Form) (line end : ℕ) where
  -- the next field is not what is wanted
  pub wrong-field : (i : ℕ) (is : List ℕ) (cs after : List Cell) (lo line' end' : ℕ) (bytes : Bor (List ℕ)) (place : Place) (k : FaultKind) → NextToken cs line end (token.Field bytes place) after line' end' → Rises lo cs end → Misfit (want_of form i) bytes.now k → ((j : FaultKind) → Misfit (want_of form i) bytes.now j → j ≡ k) → Least (FaultAt form line end (i ∷ is) cs) (record { kind = k; place = place })
  wrong-field i is [] after lo line' end' bytes place k t r m only = absurd t
  wrong-field i is (c ∷ cs) after lo line' end' bytes place k t r m only =
      let here : Misfit (want_of form i) c.bytes k = subst (λ b. Misfit (want_of form i) b k) t.0 m in
      subst (λ p. Least (FaultAt form line end (i ∷ is) (c ∷ cs)) (record { kind = k; place = p })) (sym t.1)
      (least-here _ form line end is c cs lo k r (misfit-kind (want_of form i) c.bytes k here) (inl (k, here, refl))
      (λ g p. ⊎_elim (λ q. inl (q.2 ∙ ap (λ j. at j line c.column) (only q.0 (subst (λ b. Misfit (want_of form i) b q.0) (sym t.0) q.1)))) inr p))

  -- it is, and what is left has the faults
  pub right-field : (i : ℕ) (is : List ℕ) (cs after : List Cell) (line' end' : ℕ) (bytes : Bor (List ℕ)) (place : Place) → NextToken cs line end (token.Field bytes place) after line' end' → Fit (want_of form i) bytes.now → Same (FaultAt form line' end' is after) (FaultAt form line end (i ∷ is) cs)
  right-field i is [] after line' end' bytes place t fits f = absurd t
  right-field i is (c ∷ cs) after line' end' bytes place t fits f =
      let go : FaultAt form line' end' is after ≡ FaultAt form line end is cs = (λ x. FaultAt form (t.3 x) (t.4 x) is (t.2 x)) in (
        (λ h. inr (subst (λ P. P f) go h)),
        λ h. ⊎_elim (λ p. absurd (fits p.0 (subst (λ b. Misfit (want_of form i) b p.0) (sym t.0) p.1))) (λ p. subst (λ P. P f) (sym go) p) h,
      )

  -- a value is missing
  pub no_field : (i : ℕ) (is : List ℕ) (cs after : List Cell) (line' end' : ℕ) (place : Place) → NextToken cs line end (token.End place) after line' end' → Least (FaultAt form line end (i ∷ is) cs) (record { kind = Count; place = place })
  no_field i is [] after line' end' place t =
      subst (λ p. Least (FaultAt form line end (i ∷ is) []) (record { kind = Count; place = p })) (sym t.0)
      (record { there = refl; first = λ g h. same-not-after _ g (sym h) })
  no_field i is (c ∷ cs) after line' end' place t = absurd t

  -- one value is too many
  pub extra-field : (cs after : List Cell) (lo line' end' : ℕ) (bytes : Bor (List ℕ)) (place : Place) → NextToken cs line end (token.Field bytes place) after line' end' → Rises lo cs end → Least (FaultAt form line end [] cs) (record { kind = Count; place = place })
  extra-field [] after lo line' end' bytes place t r = absurd t
  extra-field (c ∷ cs) after lo line' end' bytes place t r =
      subst (λ p. Least (FaultAt form line end [] (c ∷ cs)) (record { kind = Count; place = p })) (sym t.1)
      (least-here _ form line end [] c cs lo Count r (inl (omega arith)) (inl refl) (λ g p. p))

  pub all_read : (cs after : List Cell) (line' end' : ℕ) (place : Place) → NextToken cs line end (token.End place) after line' end' → Clean (FaultAt form line end [] cs)
  all_read [] after line' end' place t f h = h
  all_read (c ∷ cs) after line' end' place t f h = absurd t

pub row_line : (form : Form) (is : List ℕ) (line : ℕ) (bs : List ℕ) (f : Fault) → RowFault form is line bs f → f.place.line ≡ line
row_line form is line bs f h = (later form line (1 + length bs) 1 is (cells bs) f (cells-rise bs) h).0

-- of an empty line the values are missing
pub row-empty : (form : Form) (is : List ℕ) (line : ℕ) → 0 < length is → (f : Fault) → (RowFault form is line [] f → f ≡ at Count line 1) × (f ≡ at Count line 1 → RowFault form is line [] f)
row-empty form [] line h f = absurd (omega arith)
row-empty form (i ∷ is) line h f = ((λ e. e), λ e. e)
