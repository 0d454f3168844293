use Rattle.std.proofs.Common.{arith}
use Rattle.std.proofs.lemmas.Result.{err_from_is_err_and}
use Rattle.reader.proofs.HeadLaws.{head-code-wrong, head-site-wrong, head_read}
use Rattle.reader.proofs.head.read_head.Goals as goal

pub returns-in_err-code : goal.returns-in_err-code
returns-in_err-code c =
    let p = err_from_is_err_and c.from_residual.result c.from_residual.ensures.1 in
    rw (p.1, p.2) (head-code-wrong c.args.sheet.now (omega arith) c.new.result _ c.new.ensures.left c.new.ensures.number c.in_err-code.ensures)

pub returns-in_err-site : goal.returns-in_err-site
returns-in_err-site c =
    let p = err_from_is_err_and c.from_residual-in_err-site.result c.from_residual-in_err-site.ensures.1 in
    rw (p.1, p.2) (head-site-wrong c.args.sheet.now (omega arith) c.new.result c.read_code.new.lines c.in_ok-code.code c.new.ensures.left c.new.ensures.number c.in_ok-code.ensures _ c.in_err-site.ensures)

pub returns : goal.returns
returns c =
    head_read c.args.sheet.now (omega arith) c.new.result c.read_code.new.lines c.in_ok-code.code c.new.ensures.left c.new.ensures.number c.in_ok-code.ensures c.read_site.new.lines c.in_ok-site.site c.args.table.now c.read_site.new.table c.in_ok-site.ensures
