-- The names lines of a sheet.
use Rattle.std.specs.Prelude.{◌≡◌, ℕ, ◌+◌, ◌<◌, ◌≤◌, List, [], ◌∷◌, length, take, drop, codes, Some, None, Ok, Err, Option, Result, MatchOption, slice_index_or}
use Rattle.text.specs.Orders.{Order}
use Rattle.text.specs.Pieces.{parted}
use Rattle.text.specs.Faults.{at}
use Rattle.text.specs.Rows.{NextLine}
use Rattle.text.specs.declared.lines.Line.{Line}
use Rattle.text.specs.declared.fault.Fault.{Fault}
use Rattle.text.specs.declared.fault.FaultKind.TheVariants.{Sheet}

abbrev pub code_names : List (List ℕ)
code_names = codes "n" ∷ codes "k" ∷ codes "c" ∷ codes "targets" ∷ []

abbrev pub regular_names : List (List ℕ)
regular_names = codes "racks" ∷ codes "each" ∷ []

abbrev pub node_names : List (List ℕ)
node_names = codes "node" ∷ codes "rack" ∷ codes "keep" ∷ []

abbrev pub call_names : List (List ℕ)
call_names = codes "call" ∷ codes "first" ∷ codes "rest" ∷ []

-- the line has all the names, each once, in this order
abbrev pub InOrder : List (List ℕ) → List ℕ → List ℕ → Type 0
InOrder names line is = Order (length names) names (parted 44 line) is

-- it has them in no order
abbrev pub NoOrder : List (List ℕ) → List ℕ → Type 0
NoOrder names line = (is : List ℕ) → InOrder names line is → ⊥

-- the order that a names line has, or that it has none
abbrev pub OrderFound : List (List ℕ) → List ℕ → Option (List ℕ) → Type 0
OrderFound names line r = MatchOption r (NoOrder names line) (InOrder names line)

-- the first of the lines from number n on, which is empty where there is none, and what then follows
pub record OrEmpty (ls : List (List ℕ)) (n : ℕ) (line : Line) (after : List (List ℕ)) (m : ℕ) : Type 0 where
  pub bytes : take 65536 line.bytes.now ≡ slice_index_or ls 0 []
  pub number : line.number ≡ n
  pub after_it : after ≡ drop 1 ls
  pub next : 0 < length ls → m ≡ n + 1
  pub rests : length ls ≡ 0 → m ≡ n

-- the next line; or that there is none, which is told as a missing part
abbrev pub NextPart : List (List ℕ) → ℕ → Result Line Fault → List (List ℕ) → ℕ → Type 0
NextPart ls n (Ok line) after m = NextLine ls n (Some line) after m × (length line.bytes.now ≤ 65536)
NextPart ls n (Err f) after m = NextLine ls n None after m × (f ≡ at Sheet n 1)
