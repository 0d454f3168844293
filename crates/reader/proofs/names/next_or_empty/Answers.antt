use Rattle.std.proofs.Common.{refl}
use Rattle.reader.proofs.LineLaws.{or-empty}
use Rattle.reader.proofs.names.next_or_empty.Goals as goal

pub returns : goal.returns
returns c = or-empty _ _ c.next.result c.unwrap_or.result _ _ _ c.next.ensures.steps.0 c.next.ensures.steps.1 refl c.number-number.ensures c.unwrap_or.ensures
