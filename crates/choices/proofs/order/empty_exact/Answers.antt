use Rattle.choices.proofs.Head.{empty-none, none-empty}
use Rattle.choices.proofs.order.empty_exact.Goals as goal

pub returns : goal.returns
returns c = λ s k bs. (empty-none s k bs, none-empty s k bs)
