use Rattle.choices.proofs.Sites.{choice-untight}
use Rattle.choices.proofs.hall.no_tight_where_choice.Goals as goal

pub returns : goal.returns
returns _ = λ s c bs vs l h. choice-untight s c bs vs l h
