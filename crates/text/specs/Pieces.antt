-- The parts of a text between separators, and the lines of a sheet.
use Rattle.std.specs.Prelude.{◌≡◌, ℕ, ◌+◌, cond, List, [], ◌∷◌, ◌++◌, length, Some, None, Option, ◌==◌}
use Rattle.std.specs.Borrow.{Bor}
use Rattle.std.specs.List.{flat_map}

-- b in front of the first piece
abbrev pub onto : ℕ → List (List ℕ) → List (List ℕ)
onto b [] = (b ∷ []) ∷ []
onto b (p ∷ ps) = (b ∷ p) ∷ ps

-- the bytes between separators: one piece more than there are separators
abbrev pub pieces : ℕ → List ℕ → List (List ℕ)
pieces sep [] = [] ∷ []
pieces sep (b ∷ bs) = cond (b == sep) ([] ∷ pieces sep bs) (onto b (pieces sep bs))

-- an empty text has none
abbrev pub parted : ℕ → List ℕ → List (List ℕ)
parted sep [] = []
parted sep (b ∷ bs) = pieces sep (b ∷ bs)

-- pieces put together again
abbrev pub glued : ℕ → List (List ℕ) → List ℕ
glued sep [] = []
glued sep (p ∷ ps) = p ++ flat_map (λ q. sep ∷ q) ps

-- the lines, each without the byte 10 that ends it; the last may lack one
abbrev pub lines_of : List ℕ → List (List ℕ)
lines_of [] = []
lines_of (b ∷ bs) = cond (b == 10) ([] ∷ lines_of bs) (onto b (lines_of bs))

-- the pieces of what is left, if anything is
abbrev pub rest : ℕ → Option (Bor (List ℕ)) → List (List ℕ)
rest sep None = []
rest sep (Some bytes) = pieces sep bytes.now

abbrev pub length_of : Option (Bor (List ℕ)) → ℕ
length_of None = 0
length_of (Some bytes) = length bytes.now

-- what is left is shorter by the piece and its separator
abbrev pub Shorter : List ℕ → List ℕ → Option (Bor (List ℕ)) → Type 0
Shorter all front None = length front ≡ length all
Shorter all front (Some bytes) = length front + length bytes.now + 1 ≡ length all
