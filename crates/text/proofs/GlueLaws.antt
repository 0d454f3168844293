-- Pieces put together again are the text; and a text put together from pieces without separators has those pieces.
use Rattle.std.proofs.Common.{◌≡◌, ℕ, ◌<◌, true, false, cond, eqb, List, [], ◌∷◌, ◌++◌, length, sym, refl, ap, ◌∙◌, append-nil, arith}
use Rattle.std.specs.List.{flat_map, AllByRecursion}
use Rattle.std.proofs.lemmas.Bool.{eqb-true, eq-eqb, ne_eqb}
use Rattle.text.specs.Pieces.{pieces, parted, onto, glued}
use Rattle.text.proofs.PieceLaws.{pieces_are}

glued-onto : (sep b : ℕ) (ps : List (List ℕ)) → glued sep (onto b ps) ≡ b ∷ glued sep ps
glued-onto sep b [] = refl
glued-onto sep b (p ∷ ps) = refl

glued-none : (sep : ℕ) (bs : List ℕ) → glued sep ([] ∷ pieces sep bs) ≡ sep ∷ glued sep (pieces sep bs)
glued-none sep bs = pieces_are (λ ps. glued sep ([] ∷ ps) ≡ sep ∷ glued sep ps) sep bs (λ p ps. refl)

pub glued-pieces : (sep : ℕ) (bs : List ℕ) → glued sep (pieces sep bs) ≡ bs
glued-pieces sep [] = refl
glued-pieces sep (b ∷ bs) =
    let i = glued-pieces sep bs in
    elim (eqb b sep) as (λ t. eqb b sep ≡ t → glued sep (cond t ([] ∷ pieces sep bs) (onto b (pieces sep bs))) ≡ b ∷ bs) [
      | true ↦ λ t. glued-none sep bs ∙ (λ k. sym (eqb-true b sep t) k ∷ i k)
      | false ↦ λ t. glued-onto sep b (pieces sep bs) ∙ ap (λ l. b ∷ l) i
    ] refl

pub glued-parted : (sep : ℕ) (bs : List ℕ) → glued sep (parted sep bs) ≡ bs
glued-parted sep [] = refl
glued-parted sep (b ∷ bs) = glued-pieces sep (b ∷ bs)

abbrev pub Free : ℕ → List ℕ → Type 0
Free sep p = AllByRecursion (λ b. b ≡ sep → ⊥) p

-- a front without separators goes before the first piece
abbrev before : List ℕ → List (List ℕ) → List (List ℕ)
before [] qs = qs
before (b ∷ p) qs = onto b (before p qs)

pieces-before : (sep : ℕ) (p t : List ℕ) → Free sep p → pieces sep (p ++ t) ≡ before p (pieces sep t)
pieces-before sep [] t h = refl
pieces-before sep (b ∷ p) t h = ap (λ c. cond c ([] ∷ pieces sep (p ++ t)) (onto b (pieces sep (p ++ t)))) (ne_eqb b sep h.0) ∙ ap (onto b) (pieces-before sep p t h.1)

before-none : (p : List ℕ) (qs : List (List ℕ)) → before p ([] ∷ qs) ≡ p ∷ qs
before-none [] qs = refl
before-none (b ∷ p) qs = ap (onto b) (before-none p qs)

pieces-at : (sep : ℕ) (bs : List ℕ) → pieces sep (sep ∷ bs) ≡ [] ∷ pieces sep bs
pieces-at sep bs = ap (λ c. cond c ([] ∷ pieces sep bs) (onto sep (pieces sep bs))) (eq-eqb sep sep refl)

pub pieces-glued : (sep : ℕ) (p : List ℕ) (ps : List (List ℕ)) → Free sep p → AllByRecursion (Free sep) ps → pieces sep (glued sep (p ∷ ps)) ≡ p ∷ ps
pieces-glued sep p [] h hs = ap (pieces sep) (append-nil p) ∙ ap (pieces sep) (sym (append-nil p)) ∙ pieces-before sep p [] h ∙ before-none p []
pieces-glued sep p (q ∷ qs) h hs =
    pieces-before sep p (flat_map (λ r. sep ∷ r) (q ∷ qs)) h ∙ ap (before p) (pieces-at sep (glued sep (q ∷ qs))) ∙ before-none p _ ∙ ap (λ l. p ∷ l) (pieces-glued sep q qs hs.0 hs.1)

-- where the first piece is not empty, so is the text not
pub parted-glued : (sep : ℕ) (p : List ℕ) (ps : List (List ℕ)) → 0 < length p → Free sep p → AllByRecursion (Free sep) ps → parted sep (glued sep (p ∷ ps)) ≡ p ∷ ps
parted-glued sep [] ps some h hs = absurd (omega arith)
parted-glued sep (b ∷ p) ps some h hs = pieces-glued sep (b ∷ p) ps h hs
