use Rattle.std.proofs.Common.{◌≡◌}
use Rattle.blocks.specs.Lists.{node_numbers}
use Rattle.room.specs.Plans.{after, Loaded}
use Rattle.room.proofs.parity.parity.Given as goal

abbrev pub invariant-loop-v : goal.invariant-loop-v
invariant-loop-v g l =
    (goal.iterator-loop-v g).can_next l.v-iterator × (goal.iterator-loop-v g).is_finite l.v-iterator
    × (node_numbers l.filling.nodes ≡ after (g.M.SiteMap.meaning l.map) l.c l.rule.most (node_numbers l.initial.filling.nodes) l.yielded)
    × Loaded (g.M.SiteMap.meaning l.map) l.filling
