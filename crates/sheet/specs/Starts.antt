-- How a run starts.
use Rattle.std.specs.Prelude.{◌≡◌, ℕ, ◌+◌, List, [], ◌∷◌, Some, None, Ok, Err, Result}
use Rattle.site.specs.Site.{Site, Place}
use Rattle.text.specs.Faults.{Least}
use Rattle.text.specs.declared.lines.Lines.{Lines}
use Rattle.reader.specs.declared.code.CodeValues.{CodeValues}
use Rattle.reader.specs.declared.sites.SiteValues.{SiteValues}
use Rattle.reader.specs.declared.sites.SiteValues.TheVariants.{Regular, Listed}
use Rattle.reader.specs.declared.opening.Opening.{Opening}
use Rattle.reader.specs.Openings.{Opened}
use Rattle.reader.specs.Calls.{CallsFault, CallsRead}
use Rattle.store.specs.Stripes.{Call, set_up, start}
use Rattle.store.specs.Refusals.{number_of, refused_by}
use Rattle.sheet.specs.declared.run.Run.{Run}
use Rattle.sheet.specs.declared.faults.RunFault.{RunFault}
use Rattle.sheet.specs.declared.faults.RunFault.TheVariants as fault
use Rattle.sheet.specs.Going.{Part, Going}

-- how many places of the table a site has
abbrev pub count_of : SiteValues → ℕ
count_of (Regular racks each) = 0
count_of (Listed nodes) = nodes

-- a sheet is opened, or its site fault stands whole inside the run's
abbrev pub RunOpened : List ℕ → List Place → List Place → Lines → Result Opening RunFault → Type 0
RunOpened sheet was table lines (Ok o) = Opened sheet was table lines (Ok o)
RunOpened sheet was table lines (Err (fault.Site f)) = Opened sheet was table lines (Err f)
RunOpened sheet was table lines (Err (fault.SetUp e)) = ⊥
RunOpened sheet was table lines (Err (fault.Calls f)) = ⊥

abbrev pub set_up_call : CodeValues → Call
set_up_call v = set_up v.n v.k v.c

-- the calls part after its names line
abbrev pub part_of : Site → CodeValues → List ℕ → ℕ → List (List ℕ) → Part
part_of s v is n ls = record { site = s; before = set_up_call v ∷ []; order = is; number = n; lines = ls }

-- over a new store, with the calls part from line n on: the set-up's refusal; or the fault of the names line; or the run
-- has answered none of the lines below it
abbrev pub Begun : {M : Type 0} → Site → CodeValues → List (List ℕ) → ℕ → Result Unit RunFault → Run M → Type 0
Begun s v ls n (Ok u) run = (is : List ℕ) × (after : List (List ℕ)) × CallsRead n ls is after (n + 1) × (refused_by s start (set_up_call v) ≡ None) × Going (part_of s v is (n + 1) after) [] run
Begun s v ls n (Err (fault.Site f)) run = ⊥
Begun s v ls n (Err (fault.SetUp e)) run = refused_by s start (set_up_call v) ≡ Some (number_of e)
Begun s v ls n (Err (fault.Calls f)) run = (refused_by s start (set_up_call v) ≡ None) × Least (CallsFault n ls) f
