-- Whole runs: a list of calls sent to a new store, one after the other.
use Rattle.std.specs.Prelude.{◌≡◌, ℕ, ◌<◌, List, [], ◌∷◌, ◌++◌, map, length, take, drop, Some, None, Result}
use Rattle.std.specs.List.{slice_get}
use Rattle.site.specs.Site.{Site}
use Rattle.store.specs.declared.types.Row.{Row}
use Rattle.store.specs.declared.types.Answer.{Answer}
use Rattle.store.specs.declared.types.Refusal.{Refusal}
use Rattle.store.specs.declared.types.Call as code
use Rattle.store.specs.Stripes.{Ledger, Call, start}
use Rattle.store.specs.Refusals.{refused_by}
use Rattle.store.specs.Ledger.{step, ledger}
use Rattle.store.specs.Answers.{Line, written, Answered}
use Rattle.store.specs.Promise.{Promised}
use Rattle.store.specs.Table.{call_of}

-- the calls as the rules read them, each with so many rows
abbrev pub calls_of : List code.Call → ℕ → List Call
calls_of cs room = map (λ c. call_of c room) cs

-- the answer to a call after the calls h is the one that the rules give at their ledger, for the caller's rows before and after it
abbrev pub AnsweredAfter : Site → ℕ → List Call → Call → Result Answer Refusal → Type 0
AnsweredAfter s room h call r = (before after : List Row) × (length before ≡ room) × Answered s (ledger s h) call r before after × Promised s h call r before after

-- each answer of a run, by the calls before it
abbrev pub AllAnswered : Site → ℕ → List Call → List (Result Answer Refusal) → Type 0
AllAnswered s room calls answers = (i : ℕ) (call : Call) (r : Result Answer Refusal) → slice_get calls i ≡ Some call → slice_get answers i ≡ Some r → AnsweredAfter s room (take i calls) call r

-- the caller's rows after a call at a ledger: at their front what it wrote, and past that as they were
abbrev pub rows_after : Site → Ledger → Call → List Line → List Line
rows_after s l call rows = elim (refused_by s l call) [ Some q ↦ rows | None ↦ written s l call ++ drop (length (written s l call)) rows ]

abbrev pub rows_from : Site → Ledger → List Call → List Line → List Line
rows_from s l [] rows = rows
rows_from s l (call ∷ calls) rows = rows_from s (step s l call) calls (rows_after s l call rows)

-- and after all calls of a run
abbrev pub rows_left : Site → List Call → List Line → List Line
rows_left s calls rows = rows_from s start calls rows

-- the answers to the first n calls of two runs are the same, as far as both have places for them
abbrev pub Alike : ℕ → List (Result Answer Refusal) → List (Result Answer Refusal) → Type 0
Alike n xs ys = (i : ℕ) (x y : Result Answer Refusal) → i < n → slice_get xs i ≡ Some x → slice_get ys i ≡ Some y → x ≡ y
