use Rattle.worked.proofs.Shown.{worked}
use Rattle.worked.proofs.worked_examples.Goals as goal

pub returns : goal.returns
returns _ = worked
