use Rattle.std.proofs.Common.{slice_set, ap, ◌∙◌}
use Rattle.std.proofs.Math.Seq.{take-set-lt}
use Rattle.fixed.proofs.list.FixedList.set.Goals as goal

pub returns-then-i-self : goal.returns-then-i-self
returns-then-i-self g c =
    let i = c.self.inside in
    take-set-lt i.len i.at c.args.i c.args.item c.if-i-self.true ∙ ap (λ xs. slice_set xs c.args.i c.args.item) c.self.view_is
