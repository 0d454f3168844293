-- The lines of a run, from what its sheet says.
use Rattle.std.specs.Prelude.{◌≡◌, ℕ, ◌≤◌, List, [], ◌∷◌, ◌++◌, length, take, Ok, Err, fold}
use Rattle.site.specs.Site.{Site}
use Rattle.text.specs.Spaced.{spaced}
use Rattle.text.specs.Texts.{whole}
use Rattle.store.specs.Stripes.{Block, Ledger, Call}
use Rattle.store.specs.Ledger.{step, ledger}
use Rattle.store.specs.Answers.{plan_rows, written}
use Rattle.sheet.specs.Replies.{rows_text, reply_text}
use Rattle.sheet.specs.FaultTexts.{fault_line}
use Rattle.sheet.specs.Results.{answer_of}
use Rattle.sheet.specs.Said.{Said, first_of}

-- the line that answers a call line, at the ledger of the calls before it
abbrev pub line_for : Site → Ledger → Said → List ℕ
line_for s l (Ok call) = reply_text (first_of call) (answer_of s l call) (written s l call)
line_for s l (Err f) = fault_line f

-- and the ledger after it: a line with a fault makes no call
abbrev pub note_line : Site → Ledger → Said → Ledger
note_line s l (Ok call) = step s l call
note_line s l (Err f) = l

-- the lines that answer some call lines
abbrev pub lines_from : Site → Ledger → List Said → List (List ℕ)
lines_from s l [] = []
lines_from s l (c ∷ cs) = line_for s l c ∷ lines_from s (note_line s l c) cs

-- the calls that some call lines make
abbrev pub calls_in : List Said → List Call
calls_in [] = []
calls_in (Ok call ∷ cs) = call ∷ calls_in cs
calls_in (Err f ∷ cs) = calls_in cs

-- the line of a call at a store that has had the calls h and nothing else: the ledger after it, the length that is told, and the buffer before and after
pub record Lined (s : Site) (h : List Call) (call : Call) (after : Ledger) (count : ℕ) (was is : List ℕ) : Type 0 where
  pub ledgered : after ≡ ledger s (h ++ (call ∷ []))
  pub text : is ≡ whole was (line_for s (ledger s h) (Ok call))
  pub count_is : count ≡ length (take (length was) (line_for s (ledger s h) (Ok call)))
  pub short : length (line_for s (ledger s h) (Ok call)) ≤ 2048

-- a planned stripe's line names the planned nodes
abbrev pub PlanNamed : Type 0
PlanNamed = (s : Site) (bs : List Block) (p : List ℕ) → rows_text (plan_rows s bs p) ≡ spaced p

-- the ledger that some call lines lead to is that of their calls
abbrev pub LinesNoted : Type 0
LinesNoted = (s : Site) (calls : List Call) (cs : List Said) → fold (note_line s) (ledger s calls) cs ≡ ledger s (calls ++ calls_in cs)
