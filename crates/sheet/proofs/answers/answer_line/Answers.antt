use Rattle.std.proofs.Common.{sym, ap, ◌∙◌, subst, arith}
use Rattle.blocks.specs.Blocks.{numbers}
use Rattle.store.specs.Stripes.{Call}
use Rattle.store.specs.Table.{ledger_of, call_of}
use Rattle.sheet.specs.Runs.{Lined}
use Rattle.sheet.specs.Said.{first_of}
use Rattle.sheet.proofs.Answering.{lined}
use Rattle.sheet.proofs.Cuts.{first-sent, lined-sent}
use Rattle.sheet.proofs.answers.answer_line.Goals as goal

pub returns : goal.returns
returns g c =
    let s = g.M.SiteMap.meaning c.args.store.now.map in
    let asked = c.args.line.asked in
    let n = c.args.line.first in
    let ws = numbers c.as_slice.result.now in
    let is = c.call_with-call.ensures.call in
    let after = ledger_of c.call-answer.new.self in
    record {
      within = c.write.ensures.within;
      map = c.call-answer.ensures.told.kept;
      low = c.call_with-call.ensures.low;
      line = λ h call o stands has at.
          let line =
          lined s h (call_of c.call_with-call.result 112) after c.call-answer.result _ c.call-answer.new.rows n c.write.result c.args.out.now c.write.new.out
          (c.call-answer.ensures.since h at) (first-sent asked n ws ∙ ap first_of (sym is)) c.write.ensures.value c.write.ensures.after (omega (arith, c.write.ensures.short)) in
          lined-sent s h n ws o after c.write.result c.args.out.now c.write.new.out call has asked stands
          (ap numbers c.as_slice.ensures.value ∙ c.offered-nodes.ensures) (subst (λ (x : Call). Lined s h x after c.write.result c.args.out.now c.write.new.out) is line);
    }
