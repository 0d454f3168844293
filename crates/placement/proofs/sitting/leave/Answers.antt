use Rattle.std.proofs.Common.{◌&&◌, not, eqb, get_or, sym, ap, ◌∙◌}
use Rattle.site.specs.Words.{member}
use Rattle.placement.specs.Seats.{lies_in}
use Rattle.placement.proofs.Sets.{left, without-told}
use Rattle.placement.proofs.sitting.leave.Goals as goal

pub returns-in-Some : goal.returns-in-Some
returns-in-Some c = λ r k l.
    left c.args.racks.now c.slot-r.result c.args.x c.index-racks-r.result c.in-Some.v c.requires c.slot-r.ensures.1 c.slot-r.ensures.0 c.index-racks-r.is
    c.without.result (λ j. ap (λ w. member w j) c.without.ensures ∙ without-told c.index-racks-r.result c.args.x j) r k l
    ∙ ap (λ o. member (get_or c.args.racks.now r 0) k && not (eqb k c.args.x && lies_in r o)) (sym c.in-Some.is)
