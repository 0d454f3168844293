-- A node listing: what can be wrong with it, and what it says.
use Rattle.std.specs.Prelude.{◌≡◌, ℕ, ◌+◌, ◌<◌, ◌≤◌, cond, ◌⊎◌, List, [], ◌∷◌, map, length, take, drop, decimal, ◌==◌}
use Rattle.std.specs.List.{AllByRecursion}
use Rattle.site.specs.Site.{Place}
use Rattle.text.specs.Pieces.{parted}
use Rattle.text.specs.declared.fault.Fault.{Fault}
use Rattle.reader.specs.declared.form.Form.TheVariants.{Node}
use Rattle.reader.specs.Wants.{mark_text}
use Rattle.reader.specs.Rows.{RowFault, Clean}
use Rattle.reader.specs.Names.{node_names, InOrder}

-- an order of a node listing's names
abbrev pub NodeOrder : List ℕ → Type 0
NodeOrder is = (names : List ℕ) × InOrder node_names names is

-- a fault of the node lines from number n on, the first of which comes after so many others: they end at an empty line
abbrev pub NodesFault : List ℕ → ℕ → ℕ → List (List ℕ) → Fault → Type 0
NodesFault is n count [] f = ⊥
NodesFault is n count ([] ∷ ls) f = ⊥
NodesFault is n count ((b ∷ bs) ∷ ls) f = RowFault (Node count) is n (b ∷ bs) f ⊎ NodesFault is (n + 1) (count + 1) ls f

-- the text of node, rack and keep
abbrev pub node_text : ℕ → Place → ℕ → List ℕ
node_text count p i = cond (i == 0) (decimal count) (cond (i == 1) (decimal p.0.0) (mark_text p.1))

-- the fields are the texts of a node's number, rack and mark, in the names' order
abbrev pub NodeText : List ℕ → ℕ → List ℕ → Place → Type 0
NodeText is count line p = parted 44 line ≡ map (node_text count p) is

-- the lines up to the first empty one are those of these places
abbrev pub NodesText : List ℕ → ℕ → List (List ℕ) → List Place → Type 0
NodesText is count [] [] = Unit {0}
NodesText is count [] (p ∷ ps) = ⊥
NodesText is count ([] ∷ ls) [] = Unit {0}
NodesText is count ([] ∷ ls) (p ∷ ps) = ⊥
NodesText is count ((b ∷ bs) ∷ ls) [] = ⊥
NodesText is count ((b ∷ bs) ∷ ls) (p ∷ ps) = NodeText is count (b ∷ bs) p × NodesText is (count + 1) ls ps

-- places that a listing can write
abbrev pub Places : List Place → Type 0
Places ps = (length ps ≤ 256) × AllByRecursion (λ p. p.0.0 < 32) ps

-- the lines past the first empty one, and the number of the first of them
abbrev pub past_part : List (List ℕ) → List (List ℕ)
past_part [] = []
past_part ([] ∷ ls) = ls
past_part ((b ∷ bs) ∷ ls) = past_part ls

abbrev pub past_number : ℕ → List (List ℕ) → ℕ
past_number n [] = n
past_number n ([] ∷ ls) = n + 1
past_number n ((b ∷ bs) ∷ ls) = past_number (n + 1) ls

-- a node line without fault
pub record NodeRead (is : List ℕ) (n count : ℕ) (line : List ℕ) (p : Place) : Type 0 where
  pub clean : Clean (RowFault (Node count) is n line)
  pub text : NodeText is count line p
  pub few : count ≤ 255
  pub racked : p.0.0 < 32

-- a listing without fault: the table's front has its places, the rest is as it was, and this follows it
pub record NodesRead (is : List ℕ) (n : ℕ) (ls : List (List ℕ)) (count : ℕ) (was table : List Place) (after : List (List ℕ)) (m : ℕ) : Type 0 where
  pub clean : Clean (NodesFault is n 0 ls)
  pub text : NodesText is 0 ls (take count table)
  pub few : count ≤ 256
  pub racked : AllByRecursion (λ p. p.0.0 < 32) (take count table)
  pub back : drop count table ≡ drop count was
  pub after_it : after ≡ past_part ls
  pub next : m ≡ past_number n ls
