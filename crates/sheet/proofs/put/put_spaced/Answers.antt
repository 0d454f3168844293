use Rattle.std.proofs.Common.{arith}
use Rattle.sheet.proofs.Texts.{spaced-turn, spaced-all}
use Rattle.sheet.proofs.put.put_spaced.Goals as goal

pub loop-value-preserved : goal.loop-value-preserved
loop-value-preserved g c =
    let t =
    spaced-turn g.T.Put.text g.T.Put.most c.in-Some.more.now c.loop-value.value-index c.value-item.result (omega arith) c.value-item.is c.loop-value.invariant.wrote
    c.loop-value.invariant.short c.put-in-loop-value.ensures c.put-in-loop-value-2.ensures.wrote c.put-in-loop-value-2.ensures.short in
    record { wrote = t.0; short = t.1 }

pub returns-after-loop-value : goal.returns-after-loop-value
returns-after-loop-value g c =
    let t =
    spaced-all g.T.Put.text g.T.Put.most c.args.values.now c.in-Some.first.now c.in-Some.more.now c.loop-value.value-index c.in-Some.ensures.cases.0 (omega arith)
    c.put.ensures.wrote c.put.ensures.short c.loop-value.invariant.wrote c.loop-value.invariant.short in
    record { wrote = t.0; short = t.1 }
