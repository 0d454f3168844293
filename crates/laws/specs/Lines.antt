-- A sheet's bytes leave one list of lines.
use Rattle.std.specs.Prelude.{◌≡◌, ℕ, List}
use Rattle.sheet.specs.Sheets.{LinesFor}

-- two lists of lines that a sheet has are the same
abbrev pub LinesOne : Type 0
LinesOne = (sheet : List ℕ) (xs ys : List (List ℕ)) → LinesFor sheet xs → LinesFor sheet ys → xs ≡ ys
