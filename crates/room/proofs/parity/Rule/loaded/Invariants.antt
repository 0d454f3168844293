use Rattle.std.proofs.Common.{take}
use Rattle.blocks.specs.Lists.{node_numbers}
use Rattle.room.specs.Plans.{Loads}
use Rattle.room.proofs.parity.Rule.loaded.Given as goal

abbrev pub invariant-loop-v : goal.invariant-loop-v
invariant-loop-v g l = Loads (g.M.SiteMap.meaning l.self.map.now) (node_numbers (take l.v-index l.v-items)) l.loads
