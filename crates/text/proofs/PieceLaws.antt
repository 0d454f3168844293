-- What splitting gives: the first piece is the front of the text, and the others are the pieces of what follows its separator.
use Rattle.std.proofs.Common.{◌≡◌, ℕ, suc, ◌+◌, ◌≤◌, true, false, cond, eqb, List, [], ◌∷◌, length, take, drop, Some, None, Option, sym, refl, ap, ◌∙◌, subst, arith, Bor, MatchOption}
use Rattle.std.specs.List.{position_from}
use Rattle.text.specs.Pieces.{pieces, parted, onto, Shorter}

-- whether the first separator is found from place k on: there the pieces part
abbrev Parts : ℕ → ℕ → List ℕ → Option ℕ → Type 0
Parts sep k bs r = MatchOption r (pieces sep bs ≡ bs ∷ []) (λ at. (j : ℕ) × (at ≡ k + j) × (pieces sep bs ≡ take j bs ∷ pieces sep (drop (j + 1) bs)))

parts : (sep k : ℕ) (bs : List ℕ) → Parts sep k bs (position_from (λ b. eqb b sep) k bs)
parts sep k [] = refl
parts sep k (b ∷ bs) =
    elim (eqb b sep) as (λ t. MatchOption (cond t (Some k) (position_from (λ b. eqb b sep) (k + 1) bs)) (cond t ([] ∷ pieces sep bs) (onto b (pieces sep bs)) ≡ (b ∷ bs) ∷ []) (λ at. (j : ℕ) × (at ≡ k + j) × (cond t ([] ∷ pieces sep bs) (onto b (pieces sep bs)) ≡ take j (b ∷ bs) ∷ pieces sep (drop (j + 1) (b ∷ bs))))) [
      | true ↦ (0, omega arith, refl)
      | false ↦ further (position_from (λ b. eqb b sep) (k + 1) bs) (parts sep (k + 1) bs)
    ] where
      further : (r : Option ℕ) → Parts sep (k + 1) bs r → MatchOption r (onto b (pieces sep bs) ≡ (b ∷ bs) ∷ []) (λ at. (j : ℕ) × (at ≡ k + j) × (onto b (pieces sep bs) ≡ take j (b ∷ bs) ∷ pieces sep (drop (j + 1) (b ∷ bs))))
      further None e = ap (onto b) e
      further (Some at) p =
          let over : suc p.0 + 1 ≡ suc (p.0 + 1) = omega arith in
          (suc p.0, omega (arith, p.1), ap (onto b) p.2 ∙ ap (λ n. (b ∷ take p.0 bs) ∷ pieces sep (drop n (b ∷ bs))) (sym over))

pub parted-at : (sep : ℕ) (bs : List ℕ) (at : ℕ) → position_from (λ b. eqb b sep) 0 bs ≡ Some at → pieces sep bs ≡ take at bs ∷ pieces sep (drop (at + 1) bs)
parted-at sep bs at e =
    let p = subst (Parts sep 0 bs) e (parts sep 0 bs) in
    let is : p.0 ≡ at = omega (arith, p.1) in
    p.2 ∙ ap (λ n. take n bs ∷ pieces sep (drop (n + 1) bs)) is

pub parted-nowhere : (sep : ℕ) (bs : List ℕ) → position_from (λ b. eqb b sep) 0 bs ≡ None → pieces sep bs ≡ bs ∷ []
parted-nowhere sep bs e = subst (Parts sep 0 bs) e (parts sep 0 bs)

-- there is a piece always
pub pieces_are : (P : List (List ℕ) → Type 0) (sep : ℕ) (bs : List ℕ) → ((f : List ℕ) (fs : List (List ℕ)) → P (f ∷ fs)) → P (pieces sep bs)
pieces_are P sep bs h = by (position_from (λ b. eqb b sep) 0 bs) (parts sep 0 bs) where
  by : (r : Option ℕ) → Parts sep 0 bs r → P (pieces sep bs)
  by None e = subst P (sym e) (h _ _)
  by (Some at) p = subst P (sym p.2) (h _ _)

-- there are no more of them than bytes and one
pieces-few : (sep : ℕ) (bs : List ℕ) → length (pieces sep bs) ≤ length bs + 1
pieces-few sep [] = omega arith
pieces-few sep (b ∷ bs) =
    elim (eqb b sep) as (λ t. length (cond t ([] ∷ pieces sep bs) (onto b (pieces sep bs))) ≤ length (b ∷ bs) + 1) [
      | true ↦ omega (arith, pieces-few sep bs)
      | false ↦ omega (arith, pieces-few sep bs, onto-few (pieces sep bs))
    ] where
      onto-few : (ps : List (List ℕ)) → length (onto b ps) ≤ length ps + 1
      onto-few [] = omega arith
      onto-few (p ∷ ps) = omega arith

pub parted-few : (sep : ℕ) (bs : List ℕ) → length (parted sep bs) ≤ length bs + 1
parted-few sep [] = omega arith
parted-few sep (b ∷ bs) = pieces-few sep (b ∷ bs)

pub front-within : (bs front : List ℕ) (more : Option (Bor (List ℕ))) → Shorter bs front more → length front ≤ length bs
front-within bs front None s = omega arith
front-within bs front (Some bytes) s = omega arith
