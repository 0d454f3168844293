use Rattle.sheet.proofs.Lines.{plan-named}
use Rattle.laws.proofs.lines.plan_named.Goals as goal

pub returns : goal.returns
returns _ = plan-named
