use Rattle.choices.proofs.Sites.{choice-untight, untight-choice}
use Rattle.choices.proofs.hall.choice_where_no_tight.Goals as goal

pub returns : goal.returns
returns _ = λ s c bs l. (λ h. choice-untight s c bs h.0 l h.1, untight-choice s c bs l)
