use Rattle.choices.proofs.Head.{head_first}
use Rattle.choices.proofs.order.head_first.Goals as goal

pub returns : goal.returns
returns c = λ s k bs vs more _ e. head_first s k bs vs more e
