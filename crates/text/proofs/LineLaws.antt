-- The lines of a sheet are the pieces between its line ends, but for an empty one at the very end.
use Rattle.std.proofs.Common.{◌≡◌, ℕ, ◌+◌, ◌<◌, Bool, true, false, cond, eqb, List, [], ◌∷◌, length, Some, None, Option, unwrap_or, sym, refl, ap, ◌∙◌, subst, arith, Bor}
use Rattle.text.specs.Pieces.{pieces, lines_of, onto, rest, Shorter}
use Rattle.text.specs.Rows.{NextLine}
use Rattle.text.proofs.PieceLaws.{pieces_are}

-- the pieces, but for a last one that is empty
abbrev last_out : List ℕ → List (List ℕ) → List (List ℕ)
last_out [] [] = []
last_out (b ∷ p) [] = (b ∷ p) ∷ []
last_out p (q ∷ ps) = p ∷ last_out q ps

abbrev ended : List (List ℕ) → List (List ℕ)
ended [] = []
ended (p ∷ ps) = last_out p ps

onto-ended : (b : ℕ) (ps : List (List ℕ)) → onto b (ended ps) ≡ ended (onto b ps)
onto-ended b [] = refl
onto-ended b ([] ∷ []) = refl
onto-ended b ((c ∷ p) ∷ []) = refl
onto-ended b ([] ∷ q ∷ ps) = refl
onto-ended b ((c ∷ p) ∷ q ∷ ps) = refl

ahead : (p : List ℕ) (bs : List ℕ) → p ∷ ended (pieces 10 bs) ≡ ended (p ∷ pieces 10 bs)
ahead [] bs = pieces_are (λ ps. [] ∷ ended ps ≡ ended ([] ∷ ps)) 10 bs (λ q qs. refl)
ahead (b ∷ p) bs = pieces_are (λ ps. (b ∷ p) ∷ ended ps ≡ ended ((b ∷ p) ∷ ps)) 10 bs (λ q qs. refl)

abbrev Ends : ℕ → List ℕ → Bool → Type 0
Ends b bs t = cond t ([] ∷ lines_of bs) (onto b (lines_of bs)) ≡ ended (cond t ([] ∷ pieces 10 bs) (onto b (pieces 10 bs)))

lines-ended : (bs : List ℕ) → lines_of bs ≡ ended (pieces 10 bs)
lines-ended [] = refl
lines-ended (b ∷ bs) =
    let i = lines-ended bs in
    elim (eqb b 10) as (Ends b bs) [ true ↦ ap (λ ls. [] ∷ ls) i ∙ ahead [] bs | false ↦ ap (onto b) i ∙ onto-ended b (pieces 10 bs) ]

lone : (p : List ℕ) → 0 < length p → ended (p ∷ []) ≡ p ∷ []
lone [] h = absurd (omega arith)
lone (b ∷ p) h = refl

-- the bytes that are left, or none
abbrev pub bytes_of : Option (Bor (List ℕ)) → List ℕ
bytes_of None = []
bytes_of (Some bytes) = bytes.now

pub first-line : (bs front : List ℕ) (more : Option (Bor (List ℕ))) → 0 < length bs → pieces 10 bs ≡ front ∷ rest 10 more → Shorter bs front more → lines_of bs ≡ front ∷ lines_of (bytes_of more)
first-line bs front None h e s = lines-ended bs ∙ ap ended e ∙ lone front (omega arith)
first-line bs front (Some bytes) h e s = lines-ended bs ∙ ap ended e ∙ sym (ahead front bytes.now) ∙ ap (λ ls. front ∷ ls) (sym (lines-ended bytes.now))

pub or-empty : (more : Option (Bor (List ℕ))) (none r : Bor (List ℕ)) → none.now ≡ [] → r ≡ unwrap_or more none → r.now ≡ bytes_of more
or-empty None none r z e = ap (λ x. x.now) e ∙ z
or-empty (Some bytes) none r z e = ap (λ x. x.now) e

pub a-line : (bs after : List ℕ) (n : ℕ) (bytes : Bor (List ℕ)) → lines_of bs ≡ bytes.now ∷ lines_of after → NextLine (lines_of bs) n (Some (record { bytes = bytes; number = n })) (lines_of after) (n + 1)
a-line bs after n bytes e = subst (λ ls. NextLine ls n (Some (record { bytes = bytes; number = n })) (lines_of after) (n + 1)) (sym e) (refl, refl, refl, refl)
