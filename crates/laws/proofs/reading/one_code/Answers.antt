use Rattle.laws.proofs.BackLaws.{one_code}
use Rattle.laws.proofs.reading.one_code.Goals as goal

pub returns : goal.returns
returns c = one_code
