-- The fields of a line with their columns, and the tokens that a lexer gives for them.
use Rattle.std.specs.Prelude.{◌≡◌, ℕ, ◌+◌, List, [], ◌∷◌, length}
use Rattle.text.specs.declared.lexer.Token.{Token}
use Rattle.text.specs.declared.lexer.Token.TheVariants.{Field, End}
use Rattle.text.specs.declared.lexer.Lexer.{Lexer}
use Rattle.text.specs.Pieces.{parted, rest, length_of}

-- a field, and the column where it begins
pub record Cell : Type 0 where
  pub column : ℕ
  pub bytes : List ℕ

-- fields side by side from a column on, with one byte between
abbrev pub cells_from : ℕ → List (List ℕ) → List Cell
cells_from column [] = []
cells_from column (f ∷ fs) = record { column = column; bytes = f } ∷ cells_from (column + (length f + 1)) fs

-- the fields of a line, between commas; an empty line has none
abbrev pub cells : List ℕ → List Cell
cells line = cells_from 1 (parted 44 line)

-- the fields that are yet to come
abbrev pub cells_left : Lexer → List Cell
cells_left l = cells_from l.place.column (rest 44 l.left)

-- one past the line's end
abbrev pub end_of : Lexer → ℕ
end_of l = l.place.column + length_of l.left

-- the next token of a line, and the fields that are then left
abbrev pub NextToken : List Cell → ℕ → ℕ → Token → List Cell → ℕ → ℕ → Type 0
NextToken [] line end (Field bytes place) after line' end' = ⊥
NextToken [] line end (End place) after line' end' = (place ≡ record { line = line; column = end }) × (after ≡ []) × (line' ≡ line) × (end' ≡ end)
NextToken (c ∷ cs) line end (Field bytes place) after line' end' = (bytes.now ≡ c.bytes) × (place ≡ record { line = line; column = c.column }) × (after ≡ cs) × (line' ≡ line) × (end' ≡ end)
NextToken (c ∷ cs) line end (End place) after line' end' = ⊥
