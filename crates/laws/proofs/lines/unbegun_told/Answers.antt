use Rattle.laws.proofs.Wholes.{unbegun-told}
use Rattle.laws.proofs.lines.unbegun_told.Goals as goal

pub returns : goal.returns
returns g c = unbegun-told c.args.run.now
