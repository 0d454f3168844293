use Rattle.choices.proofs.Parity.{planned-full}
use Rattle.choices.proofs.plans.planned_full.Goals as goal

pub returns : goal.returns
returns c = planned-full
