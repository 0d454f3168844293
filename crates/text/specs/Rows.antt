-- What the reader of lines gives, one after the other.
use Rattle.std.specs.Prelude.{◌≡◌, ℕ, ◌+◌, ◌≤◌, List, [], ◌∷◌, length, Some, None, Option}
use Rattle.text.specs.declared.lines.Line.{Line}
use Rattle.text.specs.declared.lines.Lines.{Lines}
use Rattle.text.specs.Pieces.{lines_of}

-- the lines that are yet to come
abbrev pub left_of : Lines → List (List ℕ)
left_of r = lines_of r.left.now

-- the next of the lines from number n on, and what is then left
abbrev pub NextLine : List (List ℕ) → ℕ → Option Line → List (List ℕ) → ℕ → Type 0
NextLine [] n None after m = (after ≡ []) × (m ≡ n)
NextLine [] n (Some line) after m = ⊥
NextLine (l ∷ ls) n None after m = ⊥
NextLine (l ∷ ls) n (Some line) after m = (line.bytes.now ≡ l) × (line.number ≡ n) × (after ≡ ls) × (m ≡ n + 1)

-- no line is longer than a sheet may be
abbrev pub Short : Option Line → Type 0
Short None = Unit {0}
Short (Some line) = length line.bytes.now ≤ 65536
