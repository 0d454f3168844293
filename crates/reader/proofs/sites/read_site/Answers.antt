use Rattle.std.proofs.Common.{refl}
use Rattle.std.proofs.lemmas.Result.{err_from_is_err_and}
use Rattle.text.specs.Rows.{left_of}
use Rattle.reader.specs.Names.{regular_names, node_names}
use Rattle.reader.proofs.NameLaws.{regular-apart, node-apart, found-is}
use Rattle.reader.proofs.SiteLaws.{site-regular-wrong, site-regular, site-listed-wrong, site-listed}
use Rattle.reader.proofs.sites.read_site.Goals as goal

pub returns-in_err-racks : goal.returns-in_err-racks
returns-in_err-racks c =
    let l = c.args.lines.now in
    let names = c.in_ok-names.names in
    let o = found-is 2 regular_names names.bytes.now c.name_order.result c.in-Some.order refl regular-apart c.name_order.ensures.exact c.in-Some.is in
    let p = err_from_is_err_and c.from_residual-in_err-racks.result c.from_residual-in_err-racks.ensures.1 in
    rw (p.1, p.2) (site-regular-wrong (left_of l) l.number names (left_of c.next_part.new.lines) c.next_part.new.lines.number c.in_ok-names.ensures.0 c.in-Some.order o _ c.in_err-racks.ensures)

pub returns-in-Some : goal.returns-in-Some
returns-in-Some c =
    let l = c.args.lines.now in
    let names = c.in_ok-names.names in
    let o = found-is 2 regular_names names.bytes.now c.name_order.result c.in-Some.order refl regular-apart c.name_order.ensures.exact c.in-Some.is in
    site-regular (left_of l) l.number names (left_of c.next_part.new.lines) c.next_part.new.lines.number c.in_ok-names.ensures.0 c.in-Some.order o _ _ _ _ c.args.table.now c.in_ok-racks.ensures

pub returns-in_err-nodes : goal.returns-in_err-nodes
returns-in_err-nodes c =
    let l = c.args.lines.now in
    let names = c.in_ok-names.names in
    let o = found-is 3 node_names names.bytes.now c.name_order-2.result c.in_ok-order.order refl node-apart c.name_order-2.ensures.exact c.in_ok-order.ensures.ok_part in
    let p = err_from_is_err_and c.from_residual-in_err-nodes.result c.from_residual-in_err-nodes.ensures.1 in
    rw (p.1, p.2) (site-listed-wrong (left_of l) l.number names (left_of c.next_part.new.lines) c.next_part.new.lines.number c.in_ok-names.ensures.0 c.in_ok-order.order o _ c.in_err-nodes.ensures)

pub returns : goal.returns
returns c =
    let l = c.args.lines.now in
    let names = c.in_ok-names.names in
    let o = found-is 3 node_names names.bytes.now c.name_order-2.result c.in_ok-order.order refl node-apart c.name_order-2.ensures.exact c.in_ok-order.ensures.ok_part in
    site-listed (left_of l) l.number names (left_of c.next_part.new.lines) c.next_part.new.lines.number c.in_ok-names.ensures.0 c.in_ok-order.order o _ _ _ c.args.table.now _ c.in_ok-nodes.ensures
