use Rattle.std.proofs.Common.{◌≡◌, ℕ, ◌+◌, ◌<◌, ◌∷◌, length, take, sym, ap, ◌∙◌, subst, arith}
use Rattle.std.proofs.lemmas.List.{length-set}
use Rattle.std.proofs.lemmas.Bool.{eqb-true, eqb-false}
use Rattle.std.proofs.lemmas.Result.{err_from_is_err_and}
use Rattle.text.specs.Rows.{left_of}
use Rattle.text.specs.Faults.{Least}
use Rattle.reader.specs.declared.form.Form.TheVariants.{Node}
use Rattle.reader.specs.Rows.{RowFault}
use Rattle.reader.specs.Listings.{NodesFault, NodesText, NodeRead}
use Rattle.reader.proofs.LineLaws.{line-is}
use Rattle.reader.proofs.RowLaws.{same_then, least-same}
use Rattle.reader.proofs.ListingLaws.{turn-wrong, turn-right, turn-said, turn-past, front-more, back_more, racked-more, read-to-end, read-to-empty}
use Rattle.reader.proofs.listing.read_nodes.Goals as goal

not-zero : (n : ℕ) → (n ≡ 0 → ⊥) → 0 < n
not-zero n h = omega arith

pub returns-then-is_empty : goal.returns-then-is_empty
returns-then-is_empty c =
    let i = c.loop-line.invariant in
    let l = c.loop-line.lines in
    read-to-empty c.args.order.now c.args.lines.now.number (left_of c.args.lines.now) c.args.table.now c.loop-line.table c.loop-line.count l.number (left_of l) i.0 i.1 i.2 i.3 i.4 i.5 i.7 _ _ c.in-Some.line c.in-Some.ensures.steps.0 (eqb-true _ 0 (sym c.if-is_empty.ensures))

pub returns-in_err-place : goal.returns-in_err-place
returns-in_err-place c =
    let i = c.loop-line.invariant in
    let l = c.loop-line.lines in
    let is = c.args.order.now in
    let p = err_from_is_err_and c.from_residual.result c.from_residual.ensures.1 in
    rw (p.1, p.2) (least-same (NodesFault is l.number c.loop-line.count (left_of l)) (NodesFault is c.args.lines.now.number 0 (left_of c.args.lines.now)) _ i.0
    (turn-wrong is l.number c.loop-line.count (left_of l) c.in-Some.line _ _ c.in-Some.ensures.steps.0 c.in-Some.ensures.steps.1 (not-zero _ (eqb-false _ 0 (sym c.if-is_empty.ensures))) _
    (subst (λ k. Least (RowFault (Node k) is c.in-Some.line.number (take 65536 c.in-Some.line.bytes.now)) c.in_err-place.field-0.0) c.from.ensures c.in_err-place.ensures)))

pub loop-line-smaller : goal.loop-line-smaller
loop-line-smaller c =
    let l = c.loop-line.lines in
    let e = line-is (left_of l) l.number c.in-Some.line _ _ c.in-Some.ensures.steps.0 in
    omega (arith, ap length e.0)

pub loop-line-preserved : goal.loop-line-preserved
loop-line-preserved c =
    let i = c.loop-line.invariant in
    let l = c.loop-line.lines in
    let is = c.args.order.now in
    let line = c.in-Some.line in
    let next = c.next.new.self in
    let count = c.loop-line.count in
    let table = c.loop-line.table in
    let place = c.in_ok-place.place in
    let read = subst (λ k. NodeRead is line.number k (take 65536 line.bytes.now) place) c.from.ensures c.in_ok-place.ensures in
    let t = c.in-Some.ensures.steps.0 in
    let short = c.in-Some.ensures.steps.1 in
    let some : 0 < length line.bytes.now = not-zero _ (eqb-false _ 0 (sym c.if-is_empty.ensures)) in
    let room : count < length table = omega (arith, read.few, i.6) in
    let past = turn-past is l.number count (left_of l) line (left_of next) next.number t short some in
    rw c.from-in-Some.ensures (
      same_then (NodesFault is next.number (count + 1) (left_of next)) (NodesFault is l.number count (left_of l)) (NodesFault is c.args.lines.now.number 0 (left_of c.args.lines.now))
          (turn-right is l.number count (left_of l) line (left_of next) next.number t short some read.clean) i.0,
      (λ ps more. subst (NodesText is 0 (left_of c.args.lines.now)) (sym (front-more table count place ps room))
          (i.1 (place ∷ ps) (turn-said is l.number count (left_of l) line (left_of next) next.number t short some place ps read.text more))),
      back_more c.args.table.now table count place i.2,
      past.0 ∙ i.3,
      past.1 ∙ i.4,
      omega (arith, read.few),
      length-set table count place ∙ i.6,
      racked-more table count place room i.7 read.racked,
    )

pub returns : goal.returns
returns c =
    let i = c.loop-line.invariant in
    let l = c.loop-line.lines in
    read-to-end c.args.order.now c.args.lines.now.number (left_of c.args.lines.now) c.args.table.now c.loop-line.table c.loop-line.count l.number (left_of l) i.0 i.1 i.2 i.3 i.4 i.5 i.7 _ _ c.in_default.ensures.steps.0
