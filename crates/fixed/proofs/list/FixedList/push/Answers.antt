use Rattle.std.proofs.Common.{arith, ◌<◌, ◌∙◌}
use Rattle.std.proofs.lemmas.List.{length-set}
use Rattle.fixed.specs.Blanks.{blank-more}
use Rattle.fixed.proofs.list.FixedList.push.Goals as goal

pub invariant_of-self : goal.invariant_of-self
invariant_of-self g c =
    let i = c.self.inside in
    let h = c.self.invariant in
    let r : i.len < g.row.N = omega (arith, h.0, c.if-self.false) in
    (omega (arith, r), length-set i.at i.len c.args.item ∙ h.1, blank-more g.row.N i.len i.at c.args.item _ (omega (arith, h.1, r)) r h.2)
