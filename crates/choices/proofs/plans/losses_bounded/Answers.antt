use Rattle.choices.proofs.Survive.{losses-bounded}
use Rattle.choices.proofs.plans.losses_bounded.Goals as goal

pub returns : goal.returns
returns c = losses-bounded
