use Rattle.laws.proofs.OneSheet.{lines-one}
use Rattle.laws.proofs.lines.lines_one.Goals as goal

pub returns : goal.returns
returns _ = lines-one
