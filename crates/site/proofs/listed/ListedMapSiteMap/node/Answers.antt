use Rattle.std.proofs.Common.{sym, arith}
use Rattle.site.proofs.Places.{listed_at, listed-past, window-within}
use Rattle.site.proofs.listed.ListedMapSiteMap.node.Goals as goal

pub bounds-self-v : goal.bounds-self-v
bounds-self-v c = omega (arith, c.args.self.now.counted, window-within 256 c.args.self.now.entries.now)

pub returns-then-v-self : goal.returns-then-v-self
returns-then-v-self c = sym (listed_at c.args.self.now.entries.now _ _ (omega (arith, c.args.self.now.counted)))

pub returns-else-v-self : goal.returns-else-v-self
returns-else-v-self c = sym (listed-past c.args.self.now.entries.now c.args.v.0 (omega (arith, c.args.self.now.counted)))
