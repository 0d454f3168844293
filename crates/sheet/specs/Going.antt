-- How far a run has come, and its next line.
use Rattle.std.specs.Prelude.{◌≡◌, ℕ, ◌+◌, ◌<◌, ◌≤◌, List, [], ◌∷◌, ◌++◌, length, take, drop, Some, None, Ok, Err, Option, Result}
use Rattle.site.specs.Site.{Site}
use Rattle.text.specs.Rows.{left_of}
use Rattle.reader.specs.Calls.{CallOrder}
use Rattle.store.specs.Stripes.{Code, Call}
use Rattle.store.specs.Ledger.{ledger}
use Rattle.store.specs.Table.{ledger_of}
use Rattle.sheet.specs.declared.run.Run.{Run}
use Rattle.sheet.specs.declared.run.ShortBuffer.{ShortBuffer}
use Rattle.sheet.specs.Said.{Said, LinesSay}
use Rattle.sheet.specs.Runs.{line_for, lines_from, calls_in}

-- A sheet's calls part: the site, the calls before it, the order of its names, the number of its first line, and its lines.
pub record Part : Type 0 where
  pub site : Site
  pub before : List Call
  pub order : List ℕ
  pub number : ℕ
  pub lines : List (List ℕ)

-- The run has answered the first lines, which say cs, and nothing else: its store has had their calls, and it reads on at the next.
pub record Going {M : Type 0} (p : Part) (cs : List Said) (run : Run M) : Type 0 where
  pub named : CallOrder p.order
  pub ordered : run.order ≡ p.order
  pub within : length cs ≤ length p.lines
  pub said : LinesSay p.order p.number (take (length cs) p.lines) cs
  pub here : left_of run.lines ≡ drop (length cs) p.lines
  pub number : run.lines.number ≡ p.number + length cs
  pub coded : (o : Code) × ((ledger p.site (p.before ++ calls_in cs)).code ≡ Some o)
  pub ledgered : ledger_of run.store ≡ ledger p.site (p.before ++ calls_in cs)

-- the line that answers what is said after cs
abbrev pub line_after : Part → List Said → Said → List ℕ
line_after p cs c = line_for p.site (ledger p.site (p.before ++ calls_in cs)) c

-- the lines so far, and this one more
abbrev pub LinesGrow : Type 0
LinesGrow = (p : Part) (cs : List Said) (c : Said)
    → lines_from p.site (ledger p.site p.before) (cs ++ (c ∷ [])) ≡ lines_from p.site (ledger p.site p.before) cs ++ (line_after p cs c ∷ [])

-- The next line is written at the front of the buffer, and the bytes past it stay; it has at most 2,048 bytes.
pub record Given {M : Type 0} (s : Site) (was is : Run M) (count : ℕ) (before after : List ℕ) : Type 0 where
  pub roomy : 2048 ≤ length before
  pub short : count ≤ length before
  pub line : (p : Part) (cs : List Said) → p.site ≡ s → Going p cs was
      → (c : Said) × Going p (cs ++ (c ∷ [])) is × (count ≡ length (line_after p cs c)) × (count ≤ 2048) × (after ≡ line_after p cs c ++ drop count before)

-- There is no further line, and nothing is written.
pub record Ended {M : Type 0} (s : Site) (was is : Run M) (before after : List ℕ) : Type 0 where
  pub roomy : 2048 ≤ length before
  pub same : after ≡ before
  pub all : (p : Part) (cs : List Said) → p.site ≡ s → Going p cs was → Going p cs is × (length cs ≡ length p.lines)

-- each line that is given is for one of the lines that were left, whatever the run; the lines that are left before and after
abbrev pub Spent : Result (Option ℕ) ShortBuffer → List (List ℕ) → List (List ℕ) → Type 0
Spent (Err e) was is = is ≡ was
Spent (Ok None) was is = (was ≡ []) × (is ≡ [])
Spent (Ok (Some count)) was is = length was ≡ length is + 1

-- a buffer that is too short is refused before anything else, and nothing changes
abbrev pub NextOf : {M : Type 0} → Site → Run M → Run M → Result (Option ℕ) ShortBuffer → List ℕ → List ℕ → Type 0
NextOf s was is (Err e) before after = (length before < 2048) × (is ≡ was) × (after ≡ before)
NextOf s was is (Ok None) before after = Ended s was is before after
NextOf s was is (Ok (Some count)) before after = Given s was is count before after
