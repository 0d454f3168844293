use Rattle.std.proofs.Common.{arith}
use Rattle.store.proofs.Reading.{deletions-told}
use Rattle.store.proofs.store.Store.deletions.Goals as goal

pub returns : goal.returns
returns g c =
    let st = c.args.self.now in
    let x = c.in_ok-stripe.ensures in
    deletions-told (g.M.SiteMap.meaning st.map) st c.args.rack.0 c.in_ok-code.field-0 c.in_ok-code.ensures x.0 _ x.1 c.in_ok-blocks.ensures
    c.args.rows.now c.write_gone.new.rows c.write_gone.result (omega (arith, c.if-rows-spare_copies.false, c.spare_copies.ensures)) c.write_gone.ensures.count c.write_gone.ensures.rows
