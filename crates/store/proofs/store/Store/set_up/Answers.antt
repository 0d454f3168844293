use Rattle.std.proofs.Common.{sym, ◌∙◌}
use Rattle.store.proofs.Fits.{fits-code}
use Rattle.store.proofs.store.Store.set_up.Goals as goal

pub invariant_of-self : goal.invariant_of-self
invariant_of-self g c = record { full = c.args.self.now.full; within = fits-code c.args.self.now c.in_ok-code.code (sym c.is_some.ensures ∙ c.if-is_some.false) }
