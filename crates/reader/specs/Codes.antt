-- The code part of a sheet: what can be wrong with it, and what it says.
use Rattle.std.specs.Prelude.{◌≡◌, ℕ, ◌+◌, ◌<◌, ◌≤◌, ◌⊎◌, List, [], ◌∷◌, map, length, drop, decimal, slice_index, slice_index_or}
use Rattle.text.specs.Faults.{at}
use Rattle.text.specs.Pieces.{parted}
use Rattle.text.specs.declared.fault.Fault.{Fault}
use Rattle.text.specs.declared.fault.FaultKind.TheVariants.{Names, Count, Sheet}
use Rattle.reader.specs.declared.code.CodeValues.{CodeValues}
use Rattle.reader.specs.declared.form.Form.TheVariants.{Numbers}
use Rattle.reader.specs.Rows.{RowFault, Clean}
use Rattle.reader.specs.Names.{code_names, InOrder, NoOrder}

-- a fault of the code part, whose names line has number n and is the first of these lines: its value line comes next, and
-- then the empty line that ends it. A line that is missing counts as empty.
abbrev pub CodeFault : ℕ → List (List ℕ) → Fault → Type 0
CodeFault n ls f =
    ((length ls < 3) × (f ≡ at Sheet (n + length ls) 1))
    ⊎ (((0 < length ls) × NoOrder code_names (slice_index_or ls 0 []) × (f ≡ at Names n 1))
    ⊎ (((is : List ℕ) × InOrder code_names (slice_index_or ls 0 []) is × RowFault Numbers is (n + 1) (slice_index_or ls 1 []) f)
    ⊎ ((0 < length (slice_index_or ls 2 [])) × (f ≡ at Count (n + 2) 1))))

-- numbers of 32 bits
abbrev pub Word : ℕ → Type 0
Word v = v ≤ 4294967295

abbrev pub CodeWords : CodeValues → Type 0
CodeWords v = Word v.n × Word v.k × Word v.c × Word v.targets

-- the value under each name, by the name's number
abbrev pub code_text : CodeValues → ℕ → List ℕ
code_text v i = decimal (slice_index (v.n ∷ v.k ∷ v.c ∷ v.targets ∷ []) i)

-- the fields are the decimal texts of the values, in the names' order
abbrev pub CodeText : List (List ℕ) → CodeValues → Type 0
CodeText ls v = (is : List ℕ) × InOrder code_names (slice_index_or ls 0 []) is × (parted 44 (slice_index_or ls 1 []) ≡ map (code_text v) is)

-- a code part without fault, and what follows it
pub record CodeRead (n : ℕ) (ls : List (List ℕ)) (v : CodeValues) (after : List (List ℕ)) (m : ℕ) : Type 0 where
  pub clean : Clean (CodeFault n ls)
  pub text : CodeText ls v
  pub long : 3 ≤ length ls
  pub after_it : after ≡ drop 3 ls
  pub next : m ≡ n + 3
