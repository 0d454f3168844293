use Rattle.std.proofs.Common.{◌<◌, sym, ◌∙◌}
use Rattle.site.proofs.Places.{all-nth, nth-map-some, nth-map-none}
use Rattle.site.specs.Maps.{targeted}
use Rattle.site.proofs.target.TargetMapSiteMap.node.Goals as goal

pub bit_on-requires : goal.bit_on-requires
bit_on-requires g c =
    all-nth (λ p. p.0.0 < 32) _ c.args.v.0 _ (g.M.SiteMap.limits c.args.self.now.map).racked (sym c.node.ensures ∙ c.in_ok-rack.was)

pub returns : goal.returns
returns g c =
    let e = nth-map-some (targeted c.args.self.now.word) _ c.args.v.0 _ (sym c.node.ensures ∙ c.in_ok-rack.was) in
    rw (c.narrowed.ensures, c.bit_on.ensures) (sym e)

pub returns-in_err-rack : goal.returns-in_err-rack
returns-in_err-rack g c =
    c.from_residual.ensures ∙ sym (nth-map-none (targeted c.args.self.now.word) _ c.args.v.0 (sym c.node.ensures ∙ c.in_err-rack.was))
