use Rattle.choices.proofs.Head.{first-unique}
use Rattle.choices.proofs.order.first_unique.Goals as goal

pub returns : goal.returns
returns c = λ s k bs vs us alone. first-unique s k bs vs alone us
