use Rattle.std.proofs.Common.{subst}
use Rattle.reader.specs.Wants.{Fit, say_of}
use Rattle.reader.proofs.WantLaws.{fit-nothing}
use Rattle.reader.proofs.row.Row.asked.Goals as goal

pub returns-in-Offer-clause-rest : goal.returns-in-Offer-clause-rest
returns-in-Offer-clause-rest c f e fit = c.nodes.ensures f e (subst (λ a. Fit (say_of a) f) c.in-Offer.is fit)

pub returns-in-Seal-clause-rest : goal.returns-in-Seal-clause-rest
returns-in-Seal-clause-rest c f e fit = c.number.ensures.text f e (subst (λ a. Fit (say_of a) f) c.in-Seal.is fit)

pub returns-in-Plan-clause-rest : goal.returns-in-Plan-clause-rest
returns-in-Plan-clause-rest c f e fit = fit-nothing f (subst (λ a. Fit (say_of a) f) c.in-Plan.is fit)

pub returns-in-Deletions-clause-rest : goal.returns-in-Deletions-clause-rest
returns-in-Deletions-clause-rest c f e fit = fit-nothing f (subst (λ a. Fit (say_of a) f) c.in-Deletions.is fit)

pub returns-in-Release-clause-rest : goal.returns-in-Release-clause-rest
returns-in-Release-clause-rest c f e fit = fit-nothing f (subst (λ a. Fit (say_of a) f) c.in-Release.is fit)

pub returns-in-Abandon-clause-rest : goal.returns-in-Abandon-clause-rest
returns-in-Abandon-clause-rest c f e fit = fit-nothing f (subst (λ a. Fit (say_of a) f) c.in-Abandon.is fit)
