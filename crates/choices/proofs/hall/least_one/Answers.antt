use Rattle.choices.proofs.Sites.{least-one}
use Rattle.choices.proofs.hall.least_one.Goals as goal

pub returns : goal.returns
returns _ = λ s c bs u w hu hw. least-one s c bs u w hu hw
