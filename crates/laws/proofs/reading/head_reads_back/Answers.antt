use Rattle.laws.proofs.BackLaws.{head-back}
use Rattle.laws.proofs.reading.head_reads_back.Goals as goal

pub returns : goal.returns
returns c = head-back
