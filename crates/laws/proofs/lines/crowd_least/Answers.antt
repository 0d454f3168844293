use Rattle.sheet.proofs.Crowds.{crowd-least}
use Rattle.laws.proofs.lines.crowd_least.Goals as goal

pub returns : goal.returns
returns _ = crowd-least
