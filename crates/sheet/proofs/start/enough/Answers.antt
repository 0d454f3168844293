use Rattle.std.proofs.Common.{arith}
use Rattle.sheet.proofs.Enoughs.{enough}
use Rattle.sheet.proofs.start.enough.Goals as goal

pub returns : goal.returns
returns c = enough 65537 (omega arith)
