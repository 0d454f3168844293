use Rattle.choices.proofs.Parity.{choice-full}
use Rattle.choices.proofs.plans.parity_full.Goals as goal

pub returns : goal.returns
returns c = choice-full
