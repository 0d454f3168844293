use Rattle.choices.proofs.Narrow.{narrow_keeps}
use Rattle.choices.proofs.order.narrow_keeps.Goals as goal

pub returns : goal.returns
returns c = λ s k bs i j l h. narrow_keeps s k bs i l h j
