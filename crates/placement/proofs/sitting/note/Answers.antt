use Rattle.std.proofs.Common.{◌∙◌, sym, ap, arith}
use Rattle.site.specs.Words.{member}
use Rattle.placement.specs.Seats.{has_noted}
use Rattle.placement.proofs.Sets.{with-told, noted-kept, noted-own}
use Rattle.placement.proofs.sitting.note.Goals as goal

pub returns-in-Some-clause-kept : goal.returns-in-Some-clause-kept
returns-in-Some-clause-kept c =
    let x = c.from.result in
    noted-kept c.args.sets.now c.shelf-i.result x c.index-sets-i.result c.with.result (omega (arith, c.requires, c.shelf-i.ensures.1)) c.index-sets-i.is
    (λ k. ap (λ w. member w k) c.with.ensures ∙ with-told c.index-sets-i.result x k (omega (arith, c.from.ensures)))

pub returns-in-Some-clause-own : goal.returns-in-Some-clause-own
returns-in-Some-clause-own c =
    let x = c.from.result in
    ap (has_noted _) c.in-Some.is
    ∙ noted-own c.args.sets.now c.shelf-i.result x c.index-sets-i.result c.with.result (omega (arith, c.requires, c.shelf-i.ensures.1)) c.index-sets-i.is
    (λ k. ap (λ w. member w k) c.with.ensures ∙ with-told c.index-sets-i.result x k (omega (arith, c.from.ensures)))
    c.in-Some.v.node.0 (sym c.shelf-i.ensures.0) (sym c.from.ensures)
