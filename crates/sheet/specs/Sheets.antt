-- The lines of a sheet, from its bytes alone.
use Rattle.std.specs.Prelude.{◌≡◌, ℕ, ◌+◌, ◌⊎◌, List, [], ◌∷◌, length, take, drop, Some, None, Ok, Err, slice_index_or}
use Rattle.site.specs.Site.{Site, Place}
use Rattle.site.specs.Maps.{Fit, regular, listed, target}
use Rattle.text.specs.Faults.{Least}
use Rattle.text.specs.Pieces.{lines_of}
use Rattle.text.specs.Rows.{left_of}
use Rattle.text.specs.declared.fault.Fault.{Fault}
use Rattle.text.specs.declared.lines.Lines.{Lines}
use Rattle.reader.specs.declared.code.CodeValues.{CodeValues}
use Rattle.reader.specs.declared.opening.Opening.{Opening}
use Rattle.reader.specs.Rows.{Clean}
use Rattle.reader.specs.Names.{InOrder, regular_names, node_names}
use Rattle.reader.specs.Codes.{CodeText}
use Rattle.reader.specs.Listings.{NodesText, past_part, past_number}
use Rattle.reader.specs.Sites.{RegularText}
use Rattle.reader.specs.SiteMaps.{kind_meaning}
use Rattle.reader.specs.Heads.{HeadFault}
use Rattle.reader.specs.Calls.{CallsFault, CallsRead}
use Rattle.store.specs.Stripes.{start}
use Rattle.store.specs.Refusals.{refused_by}
use Rattle.store.specs.Ledger.{ledger}
use Rattle.sheet.specs.declared.run.Run.{Run}
use Rattle.sheet.specs.declared.faults.RunFault.{RunFault}
use Rattle.sheet.specs.Replies.{fault_text}
use Rattle.sheet.specs.FaultTexts.{fault_line, run_fault_text}
use Rattle.sheet.specs.Said.{Said, LinesSay}
use Rattle.sheet.specs.Runs.{lines_from}
use Rattle.sheet.specs.Going.{Going}
use Rattle.sheet.specs.Starts.{count_of, RunOpened, set_up_call, part_of, Begun}

-- the lines of the site part say a regular site of so many racks and nodes each, or a listing of these places
abbrev pub RegularSaid : List (List ℕ) → ℕ → ℕ → Type 0
RegularSaid ls racks each = (is : List ℕ) × InOrder regular_names (slice_index_or ls 0 []) is × RegularText is (slice_index_or ls 1 []) racks each

abbrev pub ListingSaid : List (List ℕ) → List Place → Type 0
ListingSaid ls ps = (is : List ℕ) × InOrder node_names (slice_index_or ls 0 []) is × NodesText is 0 (drop 1 ls) ps

-- and the site that they mean
abbrev pub SiteSaid : List (List ℕ) → Site → Type 0
SiteSaid ls base =
    ((racks : ℕ) × (each : ℕ) × RegularSaid ls racks each × Fit racks each × (base ≡ regular racks each))
    ⊎ ((ps : List Place) × ListingSaid ls ps × (base ≡ listed ps))

-- the lines below the code part, those of the calls part, and the number of the first of these
abbrev pub site_lines : List ℕ → List (List ℕ)
site_lines sheet = drop 3 (lines_of sheet)

abbrev pub call_lines : List ℕ → List (List ℕ)
call_lines sheet = past_part (site_lines sheet)

abbrev pub calls_at : List ℕ → ℕ
calls_at sheet = past_number 4 (site_lines sheet)

-- the code and the site of a sheet that has no fault there: the store stands over the target map over the site
pub record Says (sheet : List ℕ) (v : CodeValues) (s : Site) : Type 0 where
  pub clean : Clean (HeadFault sheet)
  pub code : CodeText (lines_of sheet) v
  pub base : Site
  pub site : SiteSaid (site_lines sheet) base
  pub means : s ≡ target v.targets base

-- the lines of the calls part, once the store is set up
abbrev pub CallsTold : List ℕ → CodeValues → Site → List (List ℕ) → Type 0
CallsTold sheet v s lines =
    ((f : Fault) × Least (CallsFault (calls_at sheet) (call_lines sheet)) f × (lines ≡ fault_line f ∷ []))
    ⊎ ((is : List ℕ) × (after : List (List ℕ)) × (cs : List Said) × CallsRead (calls_at sheet) (call_lines sheet) is after (calls_at sheet + 1)
    × LinesSay is (calls_at sheet + 1) after cs × (lines ≡ lines_from s (ledger s (set_up_call v ∷ [])) cs))

-- the lines after code and site are read: one for a refused set-up
abbrev pub StoreTold : List ℕ → CodeValues → Site → List (List ℕ) → Type 0
StoreTold sheet v s lines =
    ((q : ℕ) × (refused_by s start (set_up_call v) ≡ Some q) × (lines ≡ fault_text q 2 1 ∷ []))
    ⊎ ((refused_by s start (set_up_call v) ≡ None) × CallsTold sheet v s lines)

-- all lines of a sheet after the heading: one for a fault in code or site, or for a site that fits no map; or a line for
-- each call line
abbrev pub LinesFor : List ℕ → List (List ℕ) → Type 0
LinesFor sheet lines =
    ((f : Fault) × Least (HeadFault sheet) f × (lines ≡ fault_line f ∷ []))
    ⊎ (((racks : ℕ) × (each : ℕ) × Clean (HeadFault sheet) × RegularSaid (site_lines sheet) racks each × (Fit racks each → ⊥) × (lines ≡ fault_text 9 5 1 ∷ []))
    ⊎ ((v : CodeValues) × (s : Site) × Says sheet v s × StoreTold sheet v s lines))

-- the first n bytes of a sheet are enough: it has the lines that they have
abbrev pub Enough : ℕ → Type 0
Enough n = (sheet : List ℕ) (lines : List (List ℕ)) → LinesFor (take n sheet) lines → LinesFor sheet lines

-- What the calls of a run give is these lines.

-- a sheet that is not opened has the one line of its fault
abbrev pub UnopenedTold : Type 0
UnopenedTold = (sheet : List ℕ) (was table : List Place) (lines : Lines) (f : RunFault) → RunOpened sheet was table lines (Err f) → LinesFor sheet (run_fault_text f ∷ [])

-- the map of an opened sheet means what the sheet says, and the reader is at its calls
abbrev pub OpenedSays : Type 0
OpenedSays = (sheet : List ℕ) (was table : List Place) (lines : Lines) (o : Opening) (s : Site) → RunOpened sheet was table lines (Ok o)
    → s ≡ target o.head.code.targets (kind_meaning o.kind (listed (take (count_of o.head.site) table)))
    → Says sheet o.head.code s × (left_of lines ≡ call_lines sheet) × (lines.number ≡ calls_at sheet)

-- a run that does not begin has the one line of its fault
abbrev pub UnbegunTold : {M : Type 0} → Run M → Type 0
UnbegunTold run = (sheet : List ℕ) (v : CodeValues) (s : Site) (f : RunFault) → Says sheet v s
    → Begun s v (call_lines sheet) (calls_at sheet) (Err f) run → LinesFor sheet (run_fault_text f ∷ [])

-- and one that has begun and has answered every line has given all lines, in order
abbrev pub WholeTold : {M : Type 0} → Run M → Type 0
WholeTold run = (sheet : List ℕ) (v : CodeValues) (s : Site) (is : List ℕ) (after : List (List ℕ)) (cs : List Said) → Says sheet v s
    → CallsRead (calls_at sheet) (call_lines sheet) is after (calls_at sheet + 1) → refused_by s start (set_up_call v) ≡ None
    → Going (part_of s v is (calls_at sheet + 1) after) cs run → length cs ≡ length after → LinesFor sheet (lines_from s (ledger s (set_up_call v ∷ [])) cs)

-- the bytes, with the code and the site that they say, leave one list of lines
abbrev pub ToldOne : Type 0
ToldOne = (sheet : List ℕ) (v : CodeValues) (s : Site) (xs ys : List (List ℕ)) → StoreTold sheet v s xs → StoreTold sheet v s ys → xs ≡ ys
