-- A block's list, as the rules read it.
use Rattle.std.specs.Prelude.{ℕ, ◌≤◌, List, [], ◌∷◌, map, length}
use Rattle.std.proofs.Common.{arith}
use Rattle.site.specs.declared.Node.{Node}
use Rattle.choices.specs.Choice.{Copies}
use Rattle.blocks.specs.declared.block.Block.{Block}

abbrev pub numbers : List Node → List ℕ
numbers vs = map (λ v. v.0) vs

abbrev pub copies_of : Block → Copies
copies_of b = numbers b.nodes

-- a block's number and its list: all that it says
abbrev pub told : Block → ℕ × Copies
told b = (b.number, copies_of b)

abbrev pub two : List Node
two = record { 0 = 0 } ∷ record { 0 = 0 } ∷ []

pub two-enough : 2 ≤ length two
two-enough = omega arith

pub two-few : length two ≤ 8
two-few = omega arith

-- the block that stands in unused places of a list
abbrev pub blank_block : Block
blank_block = record { number = 0; nodes = two; enough = two-enough; few = two-few }
