use Rattle.std.proofs.Common.{◌≡◌, ◌++◌, length, drop, sym, ap, ◌∙◌, ⊎_elim, inl, inr, arith}
use Rattle.std.proofs.lemmas.List.{length-append}
use Rattle.blocks.specs.Lists.{node_numbers}
use Rattle.store.specs.Answers.{lines, gone_of, gone_rows}
use Rattle.store.specs.Table.{held_of, helds_of}
use Rattle.store.proofs.Written.{gone-one, gone-over, gone-more, gone-length}
use Rattle.store.proofs.rows.write_gone.Goals as goal

pub loop-block-preserved : goal.loop-block-preserved
loop-block-preserved g c =
    let s = g.M.SiteMap.meaning c.args.map.now in
    let b = c.in-Some.block.now in
    let v = c.in-Some.v.now in
    let G = gone_of s (held_of b) v.0 in
    let next = c.in-Some.ensures.steps in
    let inv = c.loop-block.invariant in
    let end = c.write_gone_of-at.ensures.end in (
      inv.0 ++ G,
      gone-one s c.loop-block.block-iterator.a.rest.now c.next.new.self.a.rest.now c.loop-block.block-iterator.b.rest.now c.next.new.self.b.rest.now b v inv.0 _ next.0 next.1 inv.1,
      omega (arith, end, inv.2, length-append inv.0 G),
      omega (arith, end, inv.3, gone-length s b v.0, ap length next.0),
      λ room. c.write_gone_of-at.ensures.rows (omega (arith, room, c.loop-block.auto.rows)) ∙ gone-more inv.0 G (lines c.args.rows.now) (lines c.loop-block.rows) c.loop-block.at c.write_gone_of-at.result (sym inv.2) end (inv.4 (omega (arith, room, end))),
    )

pub returns : goal.returns
returns g c =
    let s = g.M.SiteMap.meaning c.args.map.now in
    let inv = c.loop-block.invariant in
    let over : inv.0 ≡ gone_rows s (helds_of c.args.blocks.now) (node_numbers c.args.plan.now) =
    gone-over s c.loop-block.block-iterator.a.rest.now c.loop-block.block-iterator.b.rest.now inv.0 _ (⊎_elim (λ p. inl p.1.0) (λ p. inr p.1.0) c.in-None.ensures.steps) inv.1 in
    record { count = inv.2 ∙ ap length over; rows = λ room. inv.4 room ∙ ap (λ l. l ++ drop c.loop-block.at (lines c.args.rows.now)) over }
