use Rattle.laws.proofs.OneRun.{told-one}
use Rattle.laws.proofs.lines.told_one.Goals as goal

pub returns : goal.returns
returns _ = told-one
