use Rattle.std.proofs.Common.{◌≡◌, [], take}
use Rattle.blocks.specs.Lists.{lists_of}
use Rattle.placement.specs.Resolved.{Resolved}
use Rattle.placement.proofs.resolve.resolve_all.Given as goal

abbrev pub invariant-loop-block : goal.invariant-loop-block
invariant-loop-block g l = l.initial.lists ≡ [] → Resolved (g.M.SiteMap.meaning l.map) (lists_of (take l.block-index l.block-items)) l.lists
