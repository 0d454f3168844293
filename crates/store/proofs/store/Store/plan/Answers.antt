use Rattle.std.proofs.Common.{arith}
use Rattle.store.proofs.Reading.{plan-told}
use Rattle.store.proofs.store.Store.plan.Goals as goal

pub returns : goal.returns
returns g c =
    let st = c.args.self.now in
    let x = c.in_ok-stripe.ensures in
    plan-told (g.M.SiteMap.meaning st.map) st c.args.rack.0 c.in_ok-code.code c.in_ok-code.ensures x.0 _ x.1 c.in_ok-blocks.ensures
    c.args.rows.now c.write_plan.new.rows c.write_plan.result (omega (arith, c.if-rows-n.false, c.n.ensures)) c.write_plan.ensures.count c.write_plan.ensures.rows
