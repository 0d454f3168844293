use Rattle.choices.proofs.Sites.{choice-or-tight}
use Rattle.choices.proofs.hall.choice_or_tight.Goals as goal

pub returns : goal.returns
returns _ = λ s c bs l. choice-or-tight s c bs l
