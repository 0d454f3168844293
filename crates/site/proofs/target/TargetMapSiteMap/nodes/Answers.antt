use Rattle.std.proofs.Common.{rules}
use lib.ListN.{length-map}
use Rattle.site.proofs.target.TargetMapSiteMap.nodes.Goals as goal

pub returns : goal.returns
returns g c = search (rules, length-map)
