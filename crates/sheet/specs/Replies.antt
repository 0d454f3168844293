-- The lines that a run answers, byte for byte.
use Rattle.std.specs.Prelude.{ℕ, ◌-◌, cond, List, [], ◌∷◌, ◌++◌, take, Ok, Err, codes, decimal, filter, Result, ◌==◌}
use Rattle.std.specs.List.{range_with_len}
use Rattle.site.specs.Words.{member}
use Rattle.text.specs.Spaced.{spaced, spaced_by}
use Rattle.store.specs.declared.types.Answer.{Answer}
use Rattle.store.specs.declared.types.Answer.TheVariants.{Done, Position, Rows, Standing}
use Rattle.store.specs.declared.types.Refusal.{Refusal}
use Rattle.store.specs.declared.types.Refusal.TheVariants.{OutsideLimits, SpaceBelowN, ListLength, OffMap, NodeTwice, CoreRackAgain, NoSuchRack, NotSetUp, SetUpBefore, BlockHeld, StripeFull, NoChoice, StripeBelowK, Sealed, NotSealed, StripeEmpty, FewRows}
use Rattle.store.specs.Answers.{Line}
use Rattle.store.specs.Refusals.{number_of}

-- three fields with commas between, and byte 10
abbrev pub line_text : List ℕ → List ℕ → List ℕ → List ℕ
line_text a b c = a ++ (44 ∷ (b ++ (44 ∷ (c ++ (10 ∷ [])))))

abbrev pub heading : List ℕ
heading = line_text (codes "answer") (codes "first") (codes "rest")

-- the positions of a set of blocks, ascending: bit p − 1 is for position p
unfoldable pub positions : ℕ → List ℕ
positions w = filter (λ p. member w (p - 1)) (range_with_len 1 32)

-- a row of a plan by its node; a deleted copy, of kind 2, by its block and its node
abbrev pub row_text : Line → List ℕ
row_text (kind, number, node, rack) = cond (kind == 2) (decimal number ++ (58 ∷ decimal node)) (decimal node)

-- with single spaces between
abbrev pub rows_text : List Line → List ℕ
rows_text rows = spaced_by row_text rows

-- what an accepted call tells besides: an offer its block's position, a plan and deletions their rows
abbrev pub answer_text : Answer → List Line → List ℕ
answer_text Done rows = []
answer_text (Position p) rows = decimal p
answer_text (Rows n) rows = rows_text (take n rows)
answer_text (Standing n) rows = []

-- and a refused one: where there is no choice, the positions of the blocks that crowd the offered one out
abbrev pub crowd_text : Refusal → List ℕ
crowd_text OutsideLimits = []
crowd_text SpaceBelowN = []
crowd_text ListLength = []
crowd_text OffMap = []
crowd_text NodeTwice = []
crowd_text CoreRackAgain = []
crowd_text NoSuchRack = []
crowd_text NotSetUp = []
crowd_text SetUpBefore = []
crowd_text BlockHeld = []
crowd_text StripeFull = []
crowd_text (NoChoice w) = spaced (positions w)
crowd_text StripeBelowK = []
crowd_text Sealed = []
crowd_text NotSealed = []
crowd_text StripeEmpty = []
crowd_text FewRows = []

abbrev pub status : Result Answer Refusal → List ℕ
status (Ok a) = codes "ok"
status (Err e) = decimal (number_of e)

abbrev pub rest_text : Result Answer Refusal → List Line → List ℕ
rest_text (Ok a) rows = answer_text a rows
rest_text (Err e) rows = crowd_text e

-- the line of a call, by its first, its result and the rows that it wrote
abbrev pub reply_text : ℕ → Result Answer Refusal → List Line → List ℕ
reply_text first r rows = line_text (status r) (decimal first) (rest_text r rows)

-- the line of a fault
abbrev pub fault_text : ℕ → ℕ → ℕ → List ℕ
fault_text number line column = line_text (decimal number) (decimal line) (decimal column)
