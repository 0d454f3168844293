use Rattle.std.proofs.Common.{sym, refl}
use Rattle.site.proofs.Targets.{target-twice}
use Rattle.site.proofs.target.TargetMap.within.Goals as goal

pub returns : goal.returns
returns g c = record {
  fields = (refl, refl);
  means = sym (target-twice c.args.self.word c.args.word (g.M.SiteMap.meaning c.args.self.map));
}
