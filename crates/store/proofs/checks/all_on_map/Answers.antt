use Rattle.std.proofs.Common.{◌∙◌, rules}
use Rattle.std.proofs.lemmas.Iterator.{YieldsList-from_slice}
use Rattle.std.proofs.lemmas.Iterator.Search.{all_from_yields_List}
use borrow.Author.Tests.{tests}
use Rattle.store.specs.Refusals.{on_map}
use Rattle.store.proofs.Looks.{every-map}
use Rattle.store.proofs.checks.all_on_map.Goals as goal

pub returns : goal.returns
returns g c =
    let on = on_map (g.M.SiteMap.meaning c.args.map.now) in
    all_from_yields_List (λ v. on v.0) _ _ c.all.result c.all.ensures.ran (YieldsList-from_slice c.args.nodes.now cc) (λ x b q k. search (rules, tests)) ∙ every-map on c.args.nodes.now
