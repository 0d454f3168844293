-- Texts with single spaces between. Numbers in decimal are written and read so as node lists.
use Rattle.std.specs.Prelude.{ℕ, List, [], ◌∷◌, ◌++◌, decimal}
use Rattle.std.specs.List.{flat_map}

-- each value by its text
abbrev pub spaced_by : {A : Type 0} → (A → List ℕ) → List A → List ℕ
spaced_by text [] = []
spaced_by text (v ∷ vs) = text v ++ flat_map (λ u. 32 ∷ text u) vs

abbrev pub spaced : List ℕ → List ℕ
spaced = spaced_by decimal
