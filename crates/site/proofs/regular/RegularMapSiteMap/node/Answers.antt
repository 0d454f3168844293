use Rattle.std.proofs.Common.{sym, arith}
use Rattle.site.proofs.Places.{regular-at, regular-past}
use Rattle.site.proofs.regular.RegularMapSiteMap.node.Goals as goal

pub returns-then-v-self : goal.returns-then-v-self
returns-then-v-self c = rw c.from-v.ensures (sym (regular-at c.args.self.now.racks c.args.self.now.each c.args.v.0 (omega (arith, c.from-v.ensures))))

pub returns-else-v-self : goal.returns-else-v-self
returns-else-v-self c = sym (regular-past c.args.self.now.racks c.args.self.now.each c.args.v.0 (omega (arith, c.from-v.ensures)))
