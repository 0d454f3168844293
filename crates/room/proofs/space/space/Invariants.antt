use Rattle.room.specs.Rooms.{Tallied}
use Rattle.room.proofs.space.space.Given as goal

abbrev pub invariant-loop-v : goal.invariant-loop-v
invariant-loop-v g l = Tallied (g.M.SiteMap.meaning l.map) l.v l.tally
