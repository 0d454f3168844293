use Rattle.laws.proofs.BackLaws.{call_back}
use Rattle.laws.proofs.reading.call_reads_back.Goals as goal

pub returns : goal.returns
returns c = call_back
