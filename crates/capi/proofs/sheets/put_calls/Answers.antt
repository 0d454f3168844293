use Rattle.std.proofs.Common.{sym, ap, ◌∙◌}
use Rattle.text.specs.Rows.{left_of}
use Rattle.capi.proofs.Told.{begun-put, unbegun-put}
use Rattle.capi.proofs.sheets.put_calls.Goals as goal

pub returns-in-Ok : goal.returns-in-Ok
returns-in-Ok g c =
    let meaning = g.M.SiteMap.meaning in
    let run = c.new-run.result in
    let new = c.new-run.ensures in
    let means = ap meaning new.map in
    λ sheet says left number.
    begun-put sheet c.args.code (meaning c.args.map) (meaning run.store.map) (left_of run.lines) run.lines.number c.begin.new.self says means (new.left ∙ left)
    (new.number ∙ number) c.args.writer.now c.put_lines.new.writer c.put_lines.result.bytes tt c.put_lines.new.run (c.in-Ok.ensures.begun new.ledger)
    (λ p same going. c.put_lines.ensures p (same ∙ sym (ap meaning c.in-Ok.ensures.map ∙ means)) going)

pub returns : goal.returns
returns g c =
    let meaning = g.M.SiteMap.meaning in
    let run = c.new-run.result in
    let new = c.new-run.ensures in
    λ sheet says left number.
    unbegun-put sheet c.args.code (meaning c.args.map) (meaning run.store.map) (left_of run.lines) run.lines.number c.begin.new.self says (ap meaning new.map) (new.left ∙ left)
    (new.number ∙ number) c.args.writer.now c.put_fault.new.writer c.put_fault.result.bytes c.in-Err.fault (c.in-Err.ensures.begun new.ledger) c.put_fault.ensures.wrote
    c.put_fault.ensures.count
