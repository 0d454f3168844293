use Rattle.laws.proofs.Wholes.{opened-says}
use Rattle.laws.proofs.lines.opened_says.Goals as goal

pub returns : goal.returns
returns _ = opened-says
