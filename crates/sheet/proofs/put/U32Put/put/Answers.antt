use Rattle.std.proofs.Common.{arith}
use Rattle.sheet.proofs.Texts.{word-short}
use Rattle.sheet.proofs.put.U32Put.put.Goals as goal

pub returns-clause-short : goal.returns-clause-short
returns-clause-short c = word-short c.args.self.now (omega arith)
