use Rattle.std.proofs.Common.{◌≡◌}
use Rattle.blocks.specs.Lists.{node_numbers}
use Rattle.placement.specs.Firsts.{placed}
use Rattle.placement.proofs.first.Settling.nodes.Given as goal

abbrev pub invariant-loop-seat : goal.invariant-loop-seat
invariant-loop-seat l = node_numbers l.nodes ≡ placed l.seat-index l.self.sat.at
