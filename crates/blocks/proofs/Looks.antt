-- A look through a list, and whether its number is among them.
use Rattle.std.proofs.Common.{◌≡◌, ℕ, ◌||◌, eqb, List, [], ◌∷◌, map, sym, refl, ap, ◌∙◌, inl, inr}
use Rattle.std.specs.List.{list_any}
use Rattle.std.proofs.lemmas.Bool.{cases_eq, eq-eqb, ne_eqb}
use Rattle.choices.specs.Choice.{has}

swap : (v w : ℕ) → eqb v w ≡ eqb w v
swap v w = elim (cases_eq v w) [ inl e ↦ eq-eqb v w e ∙ sym (eq-eqb w v (sym e)) | inr n ↦ ne_eqb v w n ∙ sym (ne_eqb w v (λ e. n (sym e))) ]

pub has-any : {X : Type 0} (f : X → ℕ) (v : ℕ) (xs : List X) → list_any (λ x. eqb (f x) v) xs ≡ has v (map f xs)
has-any f v [] = refl
has-any f v (x ∷ xs) = ap (λ b. b || list_any (λ y. eqb (f y) v) xs) (swap (f x) v) ∙ ap (λ b. eqb v (f x) || b) (has-any f v xs)
