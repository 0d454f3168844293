-- What is written reads back: the text of any values, under names in any order, has no fault, and is no other values' text.
use Rattle.std.specs.Prelude.{◌≡◌, ℕ, ◌≤◌, List, [], length, take, drop, slice_index_or}
use Rattle.site.specs.Site.{Place}
use Rattle.text.specs.Pieces.{lines_of}
use Rattle.reader.specs.declared.code.CodeValues.{CodeValues}
use Rattle.reader.specs.declared.calls.Asked.{Asked}
use Rattle.reader.specs.declared.calls.Asked.TheVariants.{Offer, Seal, Plan, Deletions, Release, Abandon}
use Rattle.reader.specs.declared.calls.CallLine.{CallLine}
use Rattle.reader.specs.declared.sites.SiteValues.{SiteValues}
use Rattle.reader.specs.declared.sites.SiteValues.TheVariants.{Regular, Listed}
use Rattle.reader.specs.Rows.{Clean}
use Rattle.reader.specs.Codes.{Word, CodeWords, CodeText}
use Rattle.reader.specs.Listings.{Places}
use Rattle.reader.specs.Sites.{SiteText}
use Rattle.reader.specs.Heads.{HeadFault}
use Rattle.reader.specs.Calls.{CallFault, CallText, CallOrder}

-- a site that a sheet can write, and the line that ends a regular site's part is empty or missing
abbrev pub SiteWords : SiteValues → List (List ℕ) → List Place → Type 0
SiteWords (Regular racks each) ls table = Word racks × Word each × (slice_index_or ls 2 [] ≡ [])
SiteWords (Listed nodes) ls table = Places (take nodes table)

abbrev pub HeadReadsBack : Type 0
HeadReadsBack =
    (sheet : List ℕ) (code : CodeValues) (site : SiteValues) (table : List Place) → length sheet ≤ 65536 → 3 ≤ length (lines_of sheet) → slice_index_or (lines_of sheet) 2 [] ≡ [] → CodeWords code → CodeText (lines_of sheet) code → SiteWords site (drop 3 (lines_of sheet)) table → SiteText (drop 3 (lines_of sheet)) site table → Clean (HeadFault sheet)

-- lines say one code only
abbrev pub OneCode : Type 0
OneCode = (ls : List (List ℕ)) (v w : CodeValues) → CodeWords v → CodeWords w → CodeText ls v → CodeText ls w → w ≡ v

-- the same two numbers, or the same places
abbrev pub SameSite : SiteValues → List Place → SiteValues → List Place → Type 0
SameSite (Regular racks each) table (Regular racks' each') table' = (racks ≡ racks') × (each ≡ each')
SameSite (Regular racks each) table (Listed nodes) table' = ⊥
SameSite (Listed nodes) table (Regular racks each) table' = ⊥
SameSite (Listed nodes) table (Listed nodes') table' = take nodes table ≡ take nodes' table'

-- and one site only
abbrev pub OneSite : Type 0
OneSite =
    (ls : List (List ℕ)) (s t : SiteValues) (table table' : List Place) → SiteWords s ls table → SiteWords t ls table' → SiteText ls s table → SiteText ls t table' → SameSite s table t table'

-- a call whose numbers a line can write
abbrev pub AskedWords : Asked → Type 0
AskedWords (Offer list) = Unit {0}
AskedWords (Seal node) = node ≤ 65535
AskedWords Plan = Unit {0}
AskedWords Deletions = Unit {0}
AskedWords Release = Unit {0}
AskedWords Abandon = Unit {0}

abbrev pub CallReadsBack : Type 0
CallReadsBack =
    (is : List ℕ) (n : ℕ) (line : List ℕ) (call : CallLine) → CallOrder is → Word call.first → AskedWords call.asked → CallText is line call → Clean (CallFault is n line)

-- and a line says one call only
abbrev pub OneCall : Type 0
OneCall =
    (is line : List ℕ) (a b : CallLine) → CallOrder is → Word a.first → Word b.first → AskedWords a.asked → AskedWords b.asked → CallText is line a → CallText is line b → a ≡ b
