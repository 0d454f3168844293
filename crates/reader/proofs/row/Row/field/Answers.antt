use Rattle.std.proofs.Common.{eqb, take, sym, ap, ◌∙◌, rules, tests}
use Rattle.std.proofs.lemmas.Iterator.{YieldsList-from_slice}
use Rattle.std.proofs.lemmas.Iterator.Consumers.{nth_from_yields_List, YieldsList-from_first}
use Rattle.std.proofs.lemmas.Iterator.Search.{position_from_yields_List}
use Rattle.std.proofs.lemmas.Iterator.Adapters.{position_from-zero}
use Rattle.text.specs.Parts.{parts_left}
use Rattle.text.specs.Pieces.{parted}
use Rattle.reader.specs.Rows.{held}
use Rattle.reader.proofs.FieldLaws.{named-some, named-none, held-map}
use Rattle.reader.proofs.row.Row.field.Goals as goal

pub returns-in_err-place : goal.returns-in_err-place
returns-in_err-place c =
    let is = c.args.self.order.now in
    let found = position_from_yields_List (λ i. eqb i c.args.name) _ _ c.position.result c.position.ensures.ran (YieldsList-from_slice is cc) (λ x b q k. search (rules, tests)) ∙ position_from-zero (λ i. eqb i c.args.name) is in
    ap held c.from_residual.ensures ∙ sym (named-none is c.args.name (parted 44 (take 65536 c.args.self.line.bytes.now)) (sym found ∙ c.in_err-place.was))

pub returns : goal.returns
returns c =
    let is = c.args.self.order.now in
    let found = position_from_yields_List (λ i. eqb i c.args.name) _ _ c.position.result c.position.ensures.ran (YieldsList-from_slice is cc) (λ x b q k. search (rules, tests)) ∙ position_from-zero (λ i. eqb i c.args.name) is in
    let fields = parted 44 (take 65536 c.args.self.line.bytes.now) in
    let left = c.new.ensures ∙ ap (parted 44) c.front.ensures in
    held-map c.nth.result
    ∙ nth_from_yields_List c.nth.result c.nth.new.self c.in_ok-place.place c.nth.ensures.ran (YieldsList-from_first (λ x. x.now) parts_left fields left)
    ∙ sym (named-some is c.args.name fields c.in_ok-place.place (sym found ∙ c.in_ok-place.was))
