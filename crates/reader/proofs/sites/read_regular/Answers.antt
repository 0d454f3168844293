use Rattle.std.proofs.lemmas.Result.{err_from_is_err_and}
use Rattle.text.specs.Rows.{left_of}
use Rattle.reader.proofs.LineLaws.{regular-ends, regular-goes}
use Rattle.reader.proofs.SiteLaws.{regular-row-read, regular-end-read, regular-read}
use Rattle.reader.proofs.sites.read_regular.Goals as goal

pub returns-in_err-check : goal.returns-in_err-check
returns-in_err-check c =
    let l = c.args.lines.now in
    let p = err_from_is_err_and c.from_residual.result c.from_residual.ensures.1 in
    rw (p.1, p.2) (regular-row-read l.number (left_of l) c.requires.0 c.args.order.now c.requires.1 c.next_or_empty.result (left_of c.next_or_empty.new.lines) c.next_or_empty.new.lines.number c.next_or_empty.ensures _ c.in_err-check.ensures)

pub returns-in_err-end_part : goal.returns-in_err-end_part
returns-in_err-end_part c =
    let l = c.args.lines.now in
    let after = left_of c.next_or_empty.new.lines in
    let m = c.next_or_empty.new.lines.number in
    let past = left_of c.next_or_empty-end.new.lines in
    let k = c.next_or_empty-end.new.lines.number in
    let t = c.in_err-end_part.ensures in
    let p = err_from_is_err_and c.from_residual-in_err-end_part.result c.from_residual-in_err-end_part.ensures.1 in
    rw (p.1, p.2) (regular-end-read l.number (left_of l) c.requires.0 c.args.order.now c.requires.1 c.next_or_empty.result after m c.next_or_empty.ensures c.in_ok-check.ensures _ past k (regular-goes after m c.next_or_empty-end.result past k _ c.next_or_empty-end.ensures t.0 t.1))

pub returns : goal.returns
returns c =
    let l = c.args.lines.now in
    let after = left_of c.next_or_empty.new.lines in
    let m = c.next_or_empty.new.lines.number in
    let past = left_of c.next_or_empty-end.new.lines in
    let k = c.next_or_empty-end.new.lines.number in
    regular-read l.number (left_of l) c.requires.0 c.args.order.now c.requires.1 c.next_or_empty.result after m c.next_or_empty.ensures c.in_ok-check.ensures tt past k (regular-ends after m c.next_or_empty-end.result past k c.next_or_empty-end.ensures c.in_ok-end_part.ensures) c.number.result c.number-2.result c.number.ensures.text c.number-2.ensures.text
