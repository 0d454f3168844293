use Rattle.std.proofs.Common.{is_some, ap, ◌∙◌}
use Rattle.store.proofs.Looks.{placed}
use Rattle.store.proofs.checks.on_map.Goals as goal

pub returns : goal.returns
returns g c = c.is_some.ensures ∙ (ap is_some c.node.ensures ∙ placed (g.M.SiteMap.meaning c.args.map.now) c.args.v.0)
