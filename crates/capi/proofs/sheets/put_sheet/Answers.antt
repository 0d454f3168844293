use Rattle.laws.proofs.Wholes.{unopened-told, opened-says}
use Rattle.capi.proofs.Told.{fault-put}
use Rattle.capi.proofs.sheets.put_sheet.Goals as goal

pub returns-in-Ok : goal.returns-in-Ok
returns-in-Ok c =
    let sheet = c.args.sheet.now in
    let h = opened-says sheet _ c.open_run.new.table c.open_run.new.lines c.in-Ok.opening _ c.in-Ok.ensures c.sheet_map.ensures in
    c.put_calls.ensures sheet h.0 h.1 h.2

pub returns-in-Err : goal.returns-in-Err
returns-in-Err c =
    let sheet = c.args.sheet.now in
    let f = c.in-Err.fault in
    let told = unopened-told sheet _ c.open_run.new.table c.open_run.new.lines f c.in-Err.ensures in
    fault-put sheet f c.args.writer.now c.put_fault.new.writer c.put_fault.result.bytes told c.put_fault.ensures.wrote c.put_fault.ensures.count
