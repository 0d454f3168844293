-- What can be wrong with a value line, and the field that stands under a name.
use Rattle.std.specs.Prelude.{◌≡◌, ℕ, ◌+◌, cond, ◌⊎◌, List, [], ◌∷◌, length, Some, None, Option, ◌==◌}
use Rattle.std.specs.Borrow.{Bor}
use Rattle.text.specs.Cells.{Cell, cells}
use Rattle.text.specs.Faults.{at}
use Rattle.text.specs.declared.fault.Fault.{Fault}
use Rattle.text.specs.declared.fault.FaultKind.{FaultKind}
use Rattle.text.specs.declared.fault.FaultKind.TheVariants.{Count}
use Rattle.reader.specs.declared.form.Form.{Form}
use Rattle.reader.specs.Wants.{want_of, Misfit}

-- a fault, among others maybe, of a line whose fields are these and are to stand under these names: each field that is not
-- what is wanted, the first value that is missing, and each that is one too many
abbrev pub FaultAt : Form → ℕ → ℕ → List ℕ → List Cell → Fault → Type 0
FaultAt form line end [] [] f = ⊥
FaultAt form line end [] (c ∷ cs) f = (f ≡ at Count line c.column) ⊎ FaultAt form line end [] cs f
FaultAt form line end (i ∷ is) [] f = f ≡ at Count line end
FaultAt form line end (i ∷ is) (c ∷ cs) f = ((k : FaultKind) × Misfit (want_of form i) c.bytes k × (f ≡ at k line c.column)) ⊎ FaultAt form line end is cs f

-- a fault of the line of this number
abbrev pub RowFault : Form → List ℕ → ℕ → List ℕ → Fault → Type 0
RowFault form is line bytes f = FaultAt form line (1 + length bytes) is (cells bytes) f

-- there is no such fault
abbrev pub Clean : (Fault → Type 0) → Type 0
Clean P = (f : Fault) → P f → ⊥

-- the field under a name, where the names stand in this order
abbrev pub named : List ℕ → ℕ → List (List ℕ) → Option (List ℕ)
named [] name fs = None
named (i ∷ is) name [] = None
named (i ∷ is) name (f ∷ fs) = cond (i == name) (Some f) (named is name fs)

-- what a part of the sheet holds, if there is one
abbrev pub held : Option (Bor (List ℕ)) → Option (List ℕ)
held None = None
held (Some bytes) = Some bytes.now
