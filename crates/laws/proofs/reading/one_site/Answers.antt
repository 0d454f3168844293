use Rattle.laws.proofs.BackLaws.{one-site}
use Rattle.laws.proofs.reading.one_site.Goals as goal

pub returns : goal.returns
returns c = one-site
