use Rattle.placement.proofs.Seated.{alone}
use Rattle.placement.proofs.search.Search.extend.Goals as goal

pub returns : goal.returns
returns c = alone c.args.self.now.c c.args.self.now.seats.now c.args.self.now.few c.args.sat.now.at c.args.x c.from.result c.with.result c.from.ensures c.with.ensures c.place.result c.place.new.sat.at c.place.ensures
