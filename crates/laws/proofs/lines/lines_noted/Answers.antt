use Rattle.sheet.proofs.Lines.{lines_noted}
use Rattle.laws.proofs.lines.lines_noted.Goals as goal

pub returns : goal.returns
returns _ = lines_noted
