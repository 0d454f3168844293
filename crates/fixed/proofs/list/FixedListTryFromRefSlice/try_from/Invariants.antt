use Rattle.fixed.proofs.Fills.{Filled}
use Rattle.fixed.proofs.list.FixedListTryFromRefSlice.try_from.Given as goal

abbrev pub invariant-loop-i : goal.invariant-loop-i
invariant-loop-i g l = Filled g.row.N l.items g.T.Blank.blank l.i l.at
