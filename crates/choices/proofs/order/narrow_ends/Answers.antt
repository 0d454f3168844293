use Rattle.choices.proofs.Narrow.{narrow-ends}
use Rattle.choices.proofs.order.narrow_ends.Goals as goal

pub returns : goal.returns
returns c = λ s k bs vs h. narrow-ends s k bs h vs
