use Rattle.std.proofs.Common.{refl, ◌∙◌}
use Rattle.std.proofs.lemmas.Result.{err_from_is_err_and}
use Rattle.text.specs.Rows.{left_of}
use Rattle.reader.specs.Names.{code_names}
use Rattle.reader.proofs.LineLaws.{or-err, code-ends, code-breaks, code-goes}
use Rattle.reader.proofs.NameLaws.{code_apart, found-is, found-none}
use Rattle.reader.proofs.CodeLaws.{code-names-read, code-row-read, code-end-read, code_read}
use Rattle.reader.proofs.code.read_code.Goals as goal

pub returns-in_err-order : goal.returns-in_err-order
returns-in_err-order c =
    let l = c.args.lines.now in
    let names = c.in_ok-names.names in
    let none = found-none 4 code_names names.bytes.now c.name_order.result refl code_apart c.name_order.ensures.exact c.in_err-order.ensures.ok_part in
    let is = or-err c.name_order.result c.ok_or.result c.in_err-order.field-0.0 c.line_fault.result c.ok_or.ensures.value c.in_err-order.ensures.ok_part c.in_err-order.was ∙ c.line_fault.ensures in
    let p = err_from_is_err_and c.from_residual-in_err-order.result c.from_residual-in_err-order.ensures.1 in
    rw (p.1, p.2) (code-names-read l.number (left_of l) names (left_of c.next_part.new.lines) c.next_part.new.lines.number c.in_ok-names.ensures.0 none _ is)

pub returns-in_err-check : goal.returns-in_err-check
returns-in_err-check c =
    let l = c.args.lines.now in
    let names = c.in_ok-names.names in
    let order = c.in_ok-order.order in
    let o = found-is 4 code_names names.bytes.now c.name_order.result order refl code_apart c.name_order.ensures.exact c.in_ok-order.ensures.ok_part in
    let p = err_from_is_err_and c.from_residual-in_err-check.result c.from_residual-in_err-check.ensures.1 in
    rw (p.1, p.2) (code-row-read l.number (left_of l) names (left_of c.next_part.new.lines) c.next_part.new.lines.number order c.next_or_empty.result (left_of c.next_or_empty.new.lines) c.next_or_empty.new.lines.number c.in_ok-names.ensures.0 o c.next_or_empty.ensures _ c.in_err-check.ensures)

pub returns-in_err-end : goal.returns-in_err-end
returns-in_err-end c =
    let l = c.args.lines.now in
    let names = c.in_ok-names.names in
    let order = c.in_ok-order.order in
    let after = left_of c.next_or_empty.new.lines in
    let m = c.next_or_empty.new.lines.number in
    let past = left_of c.next_part-2.new.lines in
    let k = c.next_part-2.new.lines.number in
    let o = found-is 4 code_names names.bytes.now c.name_order.result order refl code_apart c.name_order.ensures.exact c.in_ok-order.ensures.ok_part in
    let t = c.in_err-end.ensures in
    let p = err_from_is_err_and c.from_residual-in_err-end.result c.from_residual-in_err-end.ensures.1 in
    rw (p.1, p.2) (code-end-read l.number (left_of l) names (left_of c.next_part.new.lines) c.next_part.new.lines.number order c.next_or_empty.result after m c.in_ok-names.ensures.0 o c.next_or_empty.ensures c.in_ok-check.ensures _ past k (code-breaks after m past k _ t.0 t.1))

pub returns-in_err-end_part : goal.returns-in_err-end_part
returns-in_err-end_part c =
    let l = c.args.lines.now in
    let names = c.in_ok-names.names in
    let order = c.in_ok-order.order in
    let after = left_of c.next_or_empty.new.lines in
    let m = c.next_or_empty.new.lines.number in
    let past = left_of c.next_part-2.new.lines in
    let k = c.next_part-2.new.lines.number in
    let o = found-is 4 code_names names.bytes.now c.name_order.result order refl code_apart c.name_order.ensures.exact c.in_ok-order.ensures.ok_part in
    let t = c.in_err-end_part.ensures in
    let p = err_from_is_err_and c.from_residual-in_err-end_part.result c.from_residual-in_err-end_part.ensures.1 in
    rw (p.1, p.2) (code-end-read l.number (left_of l) names (left_of c.next_part.new.lines) c.next_part.new.lines.number order c.next_or_empty.result after m c.in_ok-names.ensures.0 o c.next_or_empty.ensures c.in_ok-check.ensures _ past k (code-goes after m c.in_ok-end.end past k _ c.in_ok-end.ensures.0 t.0 t.1))

pub returns : goal.returns
returns c =
    let l = c.args.lines.now in
    let names = c.in_ok-names.names in
    let order = c.in_ok-order.order in
    let after = left_of c.next_or_empty.new.lines in
    let m = c.next_or_empty.new.lines.number in
    let past = left_of c.next_part-2.new.lines in
    let k = c.next_part-2.new.lines.number in
    let o = found-is 4 code_names names.bytes.now c.name_order.result order refl code_apart c.name_order.ensures.exact c.in_ok-order.ensures.ok_part in
    code_read l.number (left_of l) names (left_of c.next_part.new.lines) c.next_part.new.lines.number order c.next_or_empty.result after m c.in_ok-names.ensures.0 o c.next_or_empty.ensures c.in_ok-check.ensures tt past k (code-ends after m c.in_ok-end.end past k c.in_ok-end.ensures.0 c.in_ok-end_part.ensures)
    _ c.number.ensures.text c.number-2.ensures.text c.number-3.ensures.text c.number-4.ensures.text
