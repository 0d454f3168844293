use Rattle.std.proofs.Common.{sym, subst}
use Rattle.std.proofs.lemmas.Bool.{ltb-true, ltb-false}
use Rattle.fixed.proofs.Fills.{Filled, filled-more, filled-past}
use Rattle.fixed.proofs.list.FixedListTryFromRefSlice.try_from.Goals as goal
use Rattle.fixed.proofs.list.FixedListTryFromRefSlice.try_from.Goals.{in-Some, in_default}

pub loop-i-preserved : goal.loop-i-preserved
loop-i-preserved g c =
    let items = c.args.items.now in
    let i = c.loop-i.i in
    elim c.match-get.branch [
      | in-Some w ↦
          subst (Filled g.row.N items g.T.Blank.blank _) (sym w.at-is)
          (filled-more g.row.N i items c.loop-i.at g.T.Blank.blank c.loop-i.invariant w.in-Some.item.now c.loop-i-test.true (ltb-true _ _ (sym w.in-Some.ensures.lookup.0)) w.in-Some.ensures.lookup.1)
      | in_default w ↦
          subst (Filled g.row.N items g.T.Blank.blank _) (sym w.at-is)
          (filled-past g.row.N i items c.loop-i.at g.T.Blank.blank c.loop-i.invariant (ltb-false _ _ (sym w.in_default.ensures.lookup.0)))
    ]
