use Rattle.site.proofs.Targets.{target-all}
use Rattle.site.proofs.target.TargetMap.all.Goals as goal

pub returns : goal.returns
returns g c = target-all (g.M.SiteMap.meaning c.args.map) (g.M.SiteMap.limits c.args.map).racked
