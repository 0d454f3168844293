use Rattle.choices.proofs.Exact.{choices-exact}
use Rattle.choices.proofs.order.choices_exact.Goals as goal

pub returns : goal.returns
returns c = choices-exact
