-- The lines of faults.
use Rattle.std.specs.Prelude.{ℕ, List}
use Rattle.text.specs.Faults.{number_of}
use Rattle.text.specs.declared.fault.Fault.{Fault}
use Rattle.reader.specs.declared.opening.SiteFault.TheVariants.{Read, Refused}
use Rattle.store.specs.Refusals as refusals
use Rattle.sheet.specs.declared.faults.RunFault.{RunFault}
use Rattle.sheet.specs.declared.faults.RunFault.TheVariants.{Site, SetUp, Calls}
use Rattle.sheet.specs.declared.faults.FaultLine.{FaultLine}
use Rattle.sheet.specs.Replies.{fault_text}

-- a reader's fault, at its place
abbrev pub fault_line : Fault → List ℕ
fault_line f = fault_text (number_of f.kind) f.place.line f.place.column

-- the fault that ends a run: a refused map is told at the site's value line, a refused set-up at the code's, which is line 2
abbrev pub run_fault_text : RunFault → List ℕ
run_fault_text (Site (Read f)) = fault_line f
run_fault_text (Site (Refused o line)) = fault_text 9 line 1
run_fault_text (SetUp e) = fault_text (refusals.number_of e) 2 1
run_fault_text (Calls f) = fault_line f

-- the line of a number and a place
abbrev pub told_line : FaultLine → List ℕ
told_line l = fault_text l.number l.place.line l.place.column
