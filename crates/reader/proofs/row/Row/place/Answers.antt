use Rattle.reader.proofs.ListingLaws.{node-read}
use Rattle.reader.proofs.row.Row.place.Goals as goal

pub returns : goal.returns
returns c = node-read _ _ _ _ _ c.requires c.in_ok-check.ensures c.number.ensures.text c.number.ensures.within c.mark.ensures
