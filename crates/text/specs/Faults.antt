-- The numbers of the reader's faults, and which of several faults is told.
use Rattle.std.specs.Prelude.{◌≡◌, ℕ, ◌<◌, ◌≤◌, ◌⊎◌}
use Rattle.text.specs.declared.fault.FaultKind.{FaultKind}
use Rattle.text.specs.declared.fault.FaultKind.TheVariants.{Names, Field, Count, Node, Sheet}
use Rattle.text.specs.declared.fault.Fault.{Fault}

abbrev pub number_of : FaultKind → ℕ
number_of Names = 10
number_of Field = 11
number_of Count = 12
number_of Node = 13
number_of Sheet = 14

abbrev pub at : FaultKind → ℕ → ℕ → Fault
at kind line column = record { kind = kind; place = record { line = line; column = column } }

-- an earlier place, or the same place and no higher number
abbrev pub NotAfter : Fault → Fault → Type 0
NotAfter f g =
    (f.place.line < g.place.line)
    ⊎ ((f.place.line ≡ g.place.line) × ((f.place.column < g.place.column) ⊎ ((f.place.column ≡ g.place.column) × (number_of f.kind ≤ number_of g.kind))))

-- the fault to tell, of all that P says
pub record Least (P : Fault → Type 0) (f : Fault) : Type 0 where
  pub there : P f
  pub first : (g : Fault) → P g → NotAfter f g
