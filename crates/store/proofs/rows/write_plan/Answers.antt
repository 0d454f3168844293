use Rattle.std.proofs.Common.{◌≡◌, ◌<◌, length, sym, refl, ap, ◌∙◌, arith}
use Rattle.blocks.specs.Blocks.{numbers}
use Rattle.blocks.specs.Lists.{node_numbers}
use Rattle.store.specs.Answers.{plan_row, lines}
use Rattle.store.specs.Table.{helds_of}
use Rattle.store.proofs.Written.{node_at, plan-none, plan-more, plan-length, slice-long}
use Rattle.store.proofs.rows.write_plan.Goals as goal

pub loop-i-init : goal.loop-i-init
loop-i-init g c room = plan-none (g.M.SiteMap.meaning c.args.map.now) (helds_of c.args.blocks.now) (lines c.args.rows.now)

pub loop-i-preserved : goal.loop-i-preserved
loop-i-preserved g c room =
    let s = g.M.SiteMap.meaning c.args.map.now in
    let bs = helds_of c.args.blocks.now in
    let p = node_numbers c.args.plan.now in
    let i = c.loop-i.i in
    let vs = c.as_slice-v-items.result.now in
    let e : numbers vs ≡ p = ap numbers c.as_slice-v-items.ensures.value in
    let h : i < length p = omega (arith, c.loop-i-test.true, slice-long vs p e) in
    let at = node_at vs p i (record { 0 = 0 }) e h in
    ap lines c.put.ensures ∙ plan-more s bs p c.args.rows.now c.loop-i.rows i c.planned_row.result h (omega (arith, room, h)) (c.planned_row.ensures ∙ ap (plan_row s bs i) (sym at.1)) (c.loop-i.invariant room)

pub returns-clause-count : goal.returns-clause-count
returns-clause-count g c = c.len.ensures.value ∙ (slice-long c.args.plan.now _ refl ∙ sym (plan-length (g.M.SiteMap.meaning c.args.map.now) (helds_of c.args.blocks.now) (node_numbers c.args.plan.now)))
