use Rattle.history.proofs.Same.{same_store}
use Rattle.history.proofs.laws.one_store.Goals as goal

pub returns : goal.returns
returns g c = same_store c.args.a.now c.args.b.now
