use Rattle.blocks.specs.Blocks.{copies_of}
use Rattle.blocks.specs.Lists.{lists_of}
use Rattle.placement.proofs.Resolves.{resolved-few, resolved_with}
use Rattle.placement.proofs.Admits.{offered, sat-there, listed}
use Rattle.placement.proofs.admit.admit.Goals as goal

pub returns : goal.returns
returns g c =
    let s = g.M.SiteMap.meaning c.args.map.now in
    let bs = lists_of c.args.blocks.now in
    let b = copies_of c.args.offered.now in
    let r = c.resolve_all.ensures.lists c.new-lists.ensures in
    let l = c.resolve_all.ensures.few c.new-lists.ensures in
    let all = resolved_with s bs b c.resolve_all.new.lists c.push.new.self c.as_slice.result.now c.resolve.result c.push.result r l c.resolve.ensures c.push.ensures c.as_slice.ensures.value in
    let h = offered s (g.M.SiteMap.limits c.args.map.now) c.args.c bs b c.as_slice.result.now (resolved-few s bs c.resolve_all.new.lists 16 r l) all c.seat_all.result
    (sat-there c.args.c c.as_slice.result.now c.seat_all.new.sat.at c.seat_all.result (c.seat_all.ensures c.new.ensures)) in
    record { chosen = h; listed = listed s c.args.c bs b c.seat_all.result h }
