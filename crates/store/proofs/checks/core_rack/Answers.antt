use Rattle.std.proofs.Common.{not, eqb, refl, ◌∙◌, rules}
use Rattle.std.proofs.lemmas.Iterator.{YieldsList-from_slice}
use Rattle.std.proofs.lemmas.Iterator.Adapters.{YieldsList-from_skip}
use Rattle.std.proofs.lemmas.Iterator.Search.{all_from_yields_List}
use borrow.Author.Tests.{tests}
use Rattle.site.specs.Site.{node_rack}
use Rattle.store.proofs.Looks.{away}
use Rattle.store.proofs.checks.core_rack.Goals as goal

pub returns-then-all : goal.returns-then-all
returns-then-all g c =
    let s = g.M.SiteMap.meaning c.args.map.now in
    let r = c.first_rack-rack.result.0 in
    let t =
    all_from_yields_List (λ v. not (eqb (node_rack s v.0) r)) _ _ c.all.result c.all.ensures.ran
    (YieldsList-from_skip 1 (YieldsList-from_slice c.args.nodes.now cc) cc) (λ x b q k. search (rules, tests)) in
    (c.first_rack-rack.ensures, away s c.args.nodes.now r c.all.result c.first_rack-rack.ensures t ∙ c.if-all.true)

pub returns-else-all : goal.returns-else-all
returns-else-all g c =
    let s = g.M.SiteMap.meaning c.args.map.now in
    let r = c.first_rack-rack.result.0 in
    let t =
    all_from_yields_List (λ v. not (eqb (node_rack s v.0) r)) _ _ c.all.result c.all.ensures.ran
    (YieldsList-from_skip 1 (YieldsList-from_slice c.args.nodes.now cc) cc) (λ x b q k. search (rules, tests)) in
    (refl, away s c.args.nodes.now r c.all.result c.first_rack-rack.ensures t ∙ c.if-all.false)
