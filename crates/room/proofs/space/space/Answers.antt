use Rattle.std.proofs.Common.{◌≡◌, length, sym, ◌∙◌, subst, arith}
use Rattle.room.specs.Rooms.{Tallied}
use Rattle.room.proofs.Rooms.{tally-none, tally-few, tally-yes, tally-pass, space-by}
use Rattle.room.proofs.space.space.Goals as goal
use Rattle.room.proofs.space.space.Goals.{in-Some, in_default}

pub add-requires-clause-few : goal.add-requires-clause-few
add-requires-clause-few g c =
    omega (arith, tally-few (g.M.SiteMap.meaning c.args.map.now) c.loop-v.v c.loop-v.tally c.loop-v.invariant c.in-Some.rack.0 c.in-Some.ensures.2, c.loop-v-test.true, c.nodes-v-end.ensures, (g.M.SiteMap.limits c.args.map.now).few)

pub loop-v-init : goal.loop-v-init
loop-v-init g c = tally-none _ _ c.new-tally.ensures

pub loop-v-preserved : goal.loop-v-preserved
loop-v-preserved g c =
    let s = g.M.SiteMap.meaning c.args.map.now in
    elim c.match-yes_rack.branch [
      | in-Some w ↦ subst (Tallied s _) (sym (w.tally-is ∙ w.add.ensures))
          (tally-yes s c.loop-v.v c.loop-v.tally c.loop-v.invariant w.in-Some.rack.0 w.in-Some.ensures.0 w.in-Some.ensures.1 w.in-Some.ensures.2)
      | in_default w ↦ subst (Tallied s _) (sym w.tally-is) (tally-pass s c.loop-v.v c.loop-v.tally c.loop-v.invariant w.in_default.ensures)
    ]

pub capped-requires : goal.capped-requires
capped-requires g c = λ r h.
    omega (arith, tally-few (g.M.SiteMap.meaning c.args.map.now) c.loop-v.v c.loop-v.tally c.loop-v.invariant r h, c.loop-v.auto.v-end, c.nodes-v-end.ensures, (g.M.SiteMap.limits c.args.map.now).few)

pub returns : goal.returns
returns g c =
    let s = g.M.SiteMap.meaning c.args.map.now in
    let e : c.loop-v.v ≡ length s = omega (arith, c.loop-v.auto.v-end, c.loop-v-test.false, c.nodes-v-end.ensures) in
    c.capped.ensures ∙ space-by s c.args.c c.loop-v.tally (subst (λ n. Tallied s n c.loop-v.tally) e c.loop-v.invariant)
