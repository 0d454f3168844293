use Rattle.laws.proofs.Wholes.{unopened-told}
use Rattle.laws.proofs.lines.unopened_told.Goals as goal

pub returns : goal.returns
returns _ = unopened-told
