-- What the lists of a stripe hold.
use Rattle.std.specs.Prelude.{ℕ, List, map}
use Rattle.site.specs.declared.Node.{Node}
use Rattle.choices.specs.Choice.{Copies}
use Rattle.blocks.specs.declared.block.Block.{Block}
use Rattle.blocks.specs.Blocks.{copies_of, numbers}

-- the copies of each of a stripe's blocks
abbrev pub lists_of : List Block → List Copies
lists_of bs = map copies_of bs

-- the numbers of a plan's nodes
abbrev pub node_numbers : List Node → List ℕ
node_numbers vs = numbers vs
