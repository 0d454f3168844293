use Rattle.store.specs.Ledger.{ledger}
use Rattle.sheet.proofs.Answering.{answer-is}
use Rattle.laws.proofs.lines.answers_one.Goals as goal

pub returns : goal.returns
returns _ = λ s calls call r before after answered kept. answer-is s (ledger s calls) call r before after answered kept
