use Rattle.laws.proofs.Wholes.{whole-told}
use Rattle.laws.proofs.lines.whole_told.Goals as goal

pub returns : goal.returns
returns g c = whole-told c.args.run.now
