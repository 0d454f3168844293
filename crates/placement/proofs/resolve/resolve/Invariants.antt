use Rattle.std.proofs.Common.{◌≡◌, ◌≤◌, length, take}
use Rattle.blocks.specs.Blocks.{numbers}
use Rattle.placement.specs.Resolved.{seated}
use Rattle.placement.proofs.resolve.resolve.Given as goal

abbrev pub invariant-loop-v : goal.invariant-loop-v
invariant-loop-v g l = (l.seats ≡ seated (g.M.SiteMap.meaning l.map) (numbers (take l.v-index l.v-items))) × (length l.seats ≤ l.v-index)
