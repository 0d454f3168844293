use Rattle.choices.proofs.Sites.{least-exists}
use Rattle.choices.proofs.hall.least_exists.Goals as goal

pub returns : goal.returns
returns _ = λ s c bs b l h none. least-exists s c bs b l h none
