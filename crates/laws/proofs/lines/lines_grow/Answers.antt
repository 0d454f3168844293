use Rattle.sheet.proofs.Goings.{lines-grow}
use Rattle.laws.proofs.lines.lines_grow.Goals as goal

pub returns : goal.returns
returns _ = lines-grow
