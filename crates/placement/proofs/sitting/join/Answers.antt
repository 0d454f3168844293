use Rattle.std.proofs.Common.{◌&&◌, ◌||◌, eqb, get_or, sym, ap, ◌∙◌}
use Rattle.site.specs.Words.{member}
use Rattle.placement.specs.Seats.{lies_in}
use Rattle.placement.proofs.Sets.{joined, with-told}
use Rattle.placement.proofs.sitting.join.Goals as goal

pub returns-in-Some : goal.returns-in-Some
returns-in-Some c = λ r k l.
    joined c.args.racks.now c.slot-r.result c.args.x c.index-racks-r.result c.in-Some.v c.requires.0 c.slot-r.ensures.1 c.slot-r.ensures.0 c.index-racks-r.is
    c.with.result (λ j. ap (λ w. member w j) c.with.ensures ∙ with-told c.index-racks-r.result c.args.x j c.requires.1) r k l
    ∙ ap (λ o. member (get_or c.args.racks.now r 0) k || (eqb k c.args.x && lies_in r o)) (sym c.in-Some.is)
