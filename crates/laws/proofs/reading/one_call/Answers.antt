use Rattle.laws.proofs.OneCallLaws.{one-call}
use Rattle.laws.proofs.reading.one_call.Goals as goal

pub returns : goal.returns
returns c = one-call
