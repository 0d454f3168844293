-- The code and the site of a sheet as a whole.
use Rattle.std.specs.Prelude.{◌≡◌, ℕ, ◌<◌, ◌≤◌, ◌⊎◌, List, length, drop}
use Rattle.site.specs.Site.{Place}
use Rattle.text.specs.Faults.{at}
use Rattle.text.specs.Pieces.{lines_of}
use Rattle.text.specs.Rows.{left_of}
use Rattle.text.specs.declared.lines.Lines.{Lines}
use Rattle.text.specs.declared.fault.Fault.{Fault}
use Rattle.text.specs.declared.fault.FaultKind.TheVariants.{Sheet}
use Rattle.reader.specs.declared.head.Head.{Head}
use Rattle.reader.specs.Rows.{Clean}
use Rattle.reader.specs.Codes.{CodeFault, CodeText}
use Rattle.reader.specs.Listings.{past_part, past_number}
use Rattle.reader.specs.Sites.{SitePartFault, SiteText, Kept}

-- a fault of the code part, in lines 1 to 3, or of the site part from line 4 on
abbrev pub LinesFault : List (List ℕ) → Fault → Type 0
LinesFault ls f = CodeFault 1 ls f ⊎ ((3 ≤ length ls) × SitePartFault 4 (drop 3 ls) f)

-- a fault of a sheet's code and site: one that is too long has no other
abbrev pub HeadFault : List ℕ → Fault → Type 0
HeadFault sheet f = ((65536 < length sheet) × (f ≡ at Sheet 1 1)) ⊎ ((length sheet ≤ 65536) × LinesFault (lines_of sheet) f)

-- a sheet whose code and site have no fault, what they say, and the reader at the calls part
pub record HeadRead (sheet : List ℕ) (h : Head) (was table : List Place) (lines : Lines) : Type 0 where
  pub clean : Clean (HeadFault sheet)
  pub code : CodeText (lines_of sheet) h.code
  pub site : SiteText (drop 3 (lines_of sheet)) h.site table
  pub kept : Kept h.site was table
  pub calls : left_of lines ≡ past_part (drop 3 (lines_of sheet))
  pub number : lines.number ≡ past_number 4 (drop 3 (lines_of sheet))
