use Rattle.choices.proofs.Head.{first_head}
use Rattle.choices.proofs.order.first_head.Goals as goal

pub returns : goal.returns
returns c = first_head
