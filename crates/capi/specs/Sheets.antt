-- What C is told of a sheet: its answers as one text.
use Rattle.std.specs.Prelude.{◌≡◌, ℕ, List, ◌++◌, length}
use Rattle.std.specs.List.{flat_map}
use Rattle.text.specs.Texts.{Wrote, whole}
use Rattle.text.specs.declared.writer.Writer.{Writer}
use Rattle.store.specs.Ledger.{ledger}
use Rattle.sheet.specs.Going.{Part, Going}
use Rattle.sheet.specs.Replies.{heading}
use Rattle.sheet.specs.Runs.{lines_from}
use Rattle.sheet.specs.Said.{Said}
use Rattle.sheet.specs.Sheets.{LinesFor}
use Rattle.sheet.specs.declared.run.Run.{Run}

-- lines one after the other
abbrev pub text_of : List (List ℕ) → List ℕ
text_of lines = flat_map (λ l. l) lines

-- the lines that answer what is said in a calls part
abbrev pub part_text : Part → List Said → List ℕ
part_text p cs = text_of (lines_from p.site (ledger p.site p.before) cs)

-- every line of a calls part is answered, and its answers are written and counted
pub record RunPut {M : Type 0} (p : Part) (run : Run M) (was is : Writer) (n : ℕ) : Type 0 where
  pub said : List Said
  pub all : length said ≡ length p.lines
  pub going : Going p said run
  pub wrote : Wrote was is (part_text p said)
  pub count : n ≡ length (part_text p said)

-- a sheet's lines are written and counted
pub record LinesPut (sheet : List ℕ) (was is : Writer) (n : ℕ) : Type 0 where
  pub lines : List (List ℕ)
  pub told : LinesFor sheet lines
  pub wrote : Wrote was is (text_of lines)
  pub count : n ≡ length (text_of lines)

-- heading and lines stand at the buffer's front, as far as it has room, and n is the length of them all
pub record SheetTold (sheet was is : List ℕ) (n : ℕ) : Type 0 where
  pub lines : List (List ℕ)
  pub told : LinesFor sheet lines
  pub text : is ≡ whole was (heading ++ text_of lines)
  pub count : n ≡ length (heading ++ text_of lines)
