use Rattle.std.proofs.Common.{rules, take, None, sym, ap, ◌∙◌, arith}
use Rattle.std.proofs.lemmas.List.{take_more_set, length-set}
use Rattle.std.proofs.lemmas.Grind.{common_steps}
use Rattle.text.specs.Orders.{texts, indices, distinct, complete}
use Rattle.text.specs.Parts.{parts_left}
use Rattle.text.specs.Pieces.{parted}
use Rattle.text.proofs.NodeListLaws.{after}
use Rattle.text.proofs.OrderLaws.{same_name, next-name, distinct_more, elem-any}
use Rattle.text.proofs.OrderExact.{ordered}
use Rattle.text.proofs.names.name_order.Goals as goal

pub returns-in_err-next-clause-exact : goal.returns-in_err-next-clause-exact
returns-in_err-next-clause-exact g c = ordered g.row.N (texts c.args.names.now) (parted 44 c.args.line.now) c.from_residual.result (search rules)

pub returns-in_err-index-clause-exact : goal.returns-in_err-index-clause-exact
returns-in_err-index-clause-exact g c = ordered g.row.N (texts c.args.names.now) (parted 44 c.args.line.now) c.from_residual-in_err-index.result (search rules)

pub returns-then-contains : goal.returns-then-contains
returns-then-contains g c =
    let ns = texts c.args.names.now in
    let taken = take c.loop-i.i c.loop-i.order in
    let old = c.if-contains.ensures.value ∙ sym (elem-any c.in_ok-index.index taken) in
    let v = sym (same_name g.row.N taken ns _ _ _ c.in_ok-next.ensures.steps c.in_ok-index.index c.in_ok-index.ensures old) ∙ c.loop-i.invariant.2 in
    record { value = v; exact = ordered g.row.N ns (parted 44 c.args.line.now) None v }

pub loop-i-preserved : goal.loop-i-preserved
loop-i-preserved g c =
    let ns = texts c.args.names.now in
    let i = c.loop-i.i in
    let order = c.loop-i.order in
    let index = c.in_ok-index.index in
    let new = c.if-contains.ensures.value ∙ sym (elem-any index (take i order)) in
    let one = take_more_set order i index (omega (arith, c.loop-i.invariant.0)) in (
      length-set order i index ∙ c.loop-i.invariant.0,
      ap distinct one ∙ distinct_more index (take i order) c.loop-i.invariant.1 (sym new),
      ap (λ ts. complete g.row.N (after ts (indices ns (parts_left c.next.new.self)))) one
          ∙ sym (next-name g.row.N (take i order) ns _ _ _ c.in_ok-next.ensures.steps index c.in_ok-index.ensures)
          ∙ c.loop-i.invariant.2,
    )

pub returns-clause-exact : goal.returns-clause-exact
returns-clause-exact g c = ordered g.row.N (texts c.args.names.now) (parted 44 c.args.line.now) c.then_some.result (grind (arith, common_steps))
