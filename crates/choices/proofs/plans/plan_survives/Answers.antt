use Rattle.choices.proofs.Survive.{plan-survives}
use Rattle.choices.proofs.plans.plan_survives.Goals as goal

pub returns : goal.returns
returns c = plan-survives
