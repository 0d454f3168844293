use Rattle.choices.proofs.Seats.{seat-choices, seat-reach}
use Rattle.choices.proofs.order.yes_enough.Goals as goal

pub returns : goal.returns
returns c = λ s k bs. (seat-choices s k bs, seat-reach s k bs)
