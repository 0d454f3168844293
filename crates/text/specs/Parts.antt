-- The parts of a text that are yet to come.
use Rattle.std.specs.Prelude.{ℕ, List}
use Rattle.text.specs.declared.split.Parts.{Parts}
use Rattle.text.specs.Pieces.{rest}

abbrev pub parts_left : Parts → List (List ℕ)
parts_left p = rest p.sep p.left
