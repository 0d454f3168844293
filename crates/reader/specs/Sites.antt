-- The site part of a sheet: what can be wrong with it, and what it says.
use Rattle.std.specs.Prelude.{◌≡◌, ℕ, ◌+◌, ◌<◌, ◌≤◌, ◌⊎◌, List, [], ◌∷◌, map, length, take, drop, decimal, slice_index, slice_index_or}
use Rattle.site.specs.Site.{Place}
use Rattle.site.specs.Maps.{listed}
use Rattle.text.specs.Faults.{at}
use Rattle.text.specs.Pieces.{parted}
use Rattle.text.specs.declared.fault.Fault.{Fault}
use Rattle.text.specs.declared.fault.FaultKind.TheVariants.{Names, Count, Sheet}
use Rattle.reader.specs.declared.form.Form.TheVariants.{Numbers}
use Rattle.reader.specs.declared.sites.SiteValues.{SiteValues}
use Rattle.reader.specs.declared.sites.SiteValues.TheVariants.{Regular, Listed}
use Rattle.reader.specs.Rows.{RowFault, Clean}
use Rattle.reader.specs.Names.{regular_names, node_names, InOrder, NoOrder}
use Rattle.reader.specs.Listings.{NodesFault, NodesText, past_part, past_number}

-- a fault of a regular site's lines below its names, from number n on: its value line, and the line that is to end it
abbrev pub RegularFault : List ℕ → ℕ → List (List ℕ) → Fault → Type 0
RegularFault is n ls f = RowFault Numbers is n (slice_index_or ls 0 []) f ⊎ ((0 < length (slice_index_or ls 1 [])) × (f ≡ at Count (n + 1) 1))

-- a fault of the site part, whose names line has number n and is the first of these lines
abbrev pub SitePartFault : ℕ → List (List ℕ) → Fault → Type 0
SitePartFault n [] f = f ≡ at Sheet n 1
SitePartFault n (l ∷ ls) f =
    (NoOrder regular_names l × NoOrder node_names l × (f ≡ at Names n 1))
    ⊎ (((is : List ℕ) × InOrder regular_names l is × RegularFault is (n + 1) ls f)
    ⊎ ((is : List ℕ) × InOrder node_names l is × NodesFault is (n + 1) 0 ls f))

-- the texts of racks and each
abbrev pub regular_text : ℕ → ℕ → ℕ → List ℕ
regular_text racks each i = decimal (slice_index (racks ∷ each ∷ []) i)

abbrev pub RegularText : List ℕ → List ℕ → ℕ → ℕ → Type 0
RegularText is line racks each = parted 44 line ≡ map (regular_text racks each) is

-- the lines say the site: its two numbers, or the places that the table begins with
abbrev pub SiteText : List (List ℕ) → SiteValues → List Place → Type 0
SiteText ls (Regular racks each) table = (is : List ℕ) × InOrder regular_names (slice_index_or ls 0 []) is × RegularText is (slice_index_or ls 1 []) racks each
SiteText ls (Listed nodes) table = (is : List ℕ) × InOrder node_names (slice_index_or ls 0 []) is × NodesText is 0 (drop 1 ls) (take nodes table)

-- the table past what was written is as it was, and a listed map over what was written means just that
abbrev pub Kept : SiteValues → List Place → List Place → Type 0
Kept (Regular racks each) was table = table ≡ was
Kept (Listed nodes) was table = (nodes ≤ 256) × (drop nodes table ≡ drop nodes was) × (listed (take nodes table) ≡ take nodes table)

-- a regular site's lines without fault
pub record RegularRead (is : List ℕ) (n : ℕ) (ls : List (List ℕ)) (racks each : ℕ) (after : List (List ℕ)) (m : ℕ) : Type 0 where
  pub clean : Clean (RegularFault is n ls)
  pub text : RegularText is (slice_index_or ls 0 []) racks each
  pub after_it : after ≡ past_part ls
  pub next : m ≡ past_number n ls

-- a site part without fault, and what follows it
pub record SiteRead (n : ℕ) (ls : List (List ℕ)) (v : SiteValues) (was table : List Place) (after : List (List ℕ)) (m : ℕ) : Type 0 where
  pub clean : Clean (SitePartFault n ls)
  pub text : SiteText ls v table
  pub kept : Kept v was table
  pub after_it : after ≡ past_part ls
  pub next : m ≡ past_number n ls
