use Rattle.std.proofs.Common.{◌≤◌, map, length, filter, sym, refl, ap, ◌∙◌, arith}
use Rattle.site.specs.Site.{keeps}
use Rattle.choices.specs.Plan.{first_of}
use Rattle.choices.proofs.Seats.{seat-choices}
use Rattle.blocks.specs.Lists.{lists_of, node_numbers}
use Rattle.placement.proofs.Resolves.{resolved-few, seating}
use Rattle.placement.proofs.Admits.{all_sit, refused, none-listed}
use Rattle.placement.proofs.first.first_choice.Goals as goal

pub returns-in-Ok-clause-value : goal.returns-in-Ok-clause-value
returns-in-Ok-clause-value g c =
    let s = g.M.SiteMap.meaning c.args.map.now in
    let limits = g.M.SiteMap.limits c.args.map.now in
    let bs = lists_of c.args.blocks.now in
    let r = c.resolve_all.ensures.lists c.new.ensures in
    let few : length bs ≤ 17 = omega (arith, resolved-few s bs c.resolve_all.new.lists 16 r (c.resolve_all.ensures.few c.new.ensures)) in
    c.first.ensures.value s c.args.c (map (filter (keeps s)) bs) (record {
      limits = limits;
      most = refl;
      seating = seating s bs c.resolve_all.new.lists few r;
      settled = all_sit s limits c.args.c bs c.as_slice.result.now few (c.as_slice.ensures.value ∙ r) c.seat_all.new.sat.at (c.in-Ok.ensures c.new-2.ensures);
    })
    ∙ ap first_of (seat-choices s c.args.c bs)

pub returns-in-Ok-clause-few : goal.returns-in-Ok-clause-few
returns-in-Ok-clause-few g c = c.first.ensures.few

pub returns-in-Err-clause-value : goal.returns-in-Err-clause-value
returns-in-Err-clause-value g c =
    let s = g.M.SiteMap.meaning c.args.map.now in
    let bs = lists_of c.args.blocks.now in
    let r = c.resolve_all.ensures.lists c.new.ensures in
    let few : length bs ≤ 17 = omega (arith, resolved-few s bs c.resolve_all.new.lists 16 r (c.resolve_all.ensures.few c.new.ensures)) in
    ap node_numbers c.new-in-Err.ensures ∙ sym (ap first_of (none-listed s c.args.c bs
    (refused s (g.M.SiteMap.limits c.args.map.now) c.args.c bs c.as_slice.result.now few (c.as_slice.ensures.value ∙ r) c.in-Err.field-0 (c.in-Err.ensures c.new-2.ensures))))

pub returns-in-Err-clause-few : goal.returns-in-Err-clause-few
returns-in-Err-clause-few g c = omega (arith, ap length (ap node_numbers c.new-in-Err.ensures))
