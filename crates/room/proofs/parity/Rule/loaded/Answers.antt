use Rattle.std.proofs.Common.{◌<◌, ◌≤◌, length, take, sym, ◌∙◌, subst, arith}
use Rattle.std.proofs.lemmas.List.{length-map, length-take-le}
use Rattle.blocks.specs.Lists.{node_numbers}
use Rattle.room.specs.Plans.{Loads}
use Rattle.room.proofs.Asked.{rack-at, rack-off, racked}
use Rattle.room.proofs.Visits.{load-none, load-few, load-more, load-pass, numbers-more}
use Rattle.room.proofs.parity.Rule.loaded.Goals as goal
use Rattle.room.proofs.parity.Rule.loaded.Goals.{in-Some, in_default}

pub loop-v-init : goal.loop-v-init
loop-v-init g c = load-none _ _ c.new-loads.ensures

pub add-requires-clause-few : goal.add-requires-clause-few
add-requires-clause-few g c =
    let s = g.M.SiteMap.meaning c.args.self.now.map.now in
    let h : c.in-Some.rack.0 < 32 = racked s _ c.in-Some.rack _ c.in-Some.ensures (g.M.SiteMap.limits c.args.self.now.map.now) in
    let k : length (node_numbers (take c.loop-v.v-index c.as_slice-v-items.result.now)) ≤ 24 =
    omega (arith, length-map (take c.loop-v.v-index c.as_slice-v-items.result.now) (λ v. v.0), length-take-le c.loop-v.v-index c.as_slice-v-items.result.now c.loop-v.auto.v-index-end, c.as_slice-v-items.ensures.few, c.loop-v.auto.v-index-end) in
    omega (arith, load-few s _ c.loop-v.loads c.loop-v.invariant c.in-Some.rack.0 h, k)

pub loop-v-preserved : goal.loop-v-preserved
loop-v-preserved g c =
    let s = g.M.SiteMap.meaning c.args.self.now.map.now in
    let m = numbers-more c.as_slice-v-items.result.now c.loop-v.v-index c.loop-v-test.true in
    elim c.match-node.branch [
      | in-Some w ↦ subst (λ t. Loads s t c.match-node.loads) (sym m) (subst (Loads s _) (sym (w.loads-is ∙ w.add.ensures))
          (load-more s _ c.loop-v.loads c.loop-v.invariant _ w.in-Some.rack.0 (rack-at s _ w.in-Some.rack _ w.in-Some.ensures)
          (racked s _ w.in-Some.rack _ w.in-Some.ensures (g.M.SiteMap.limits c.args.self.now.map.now))))
      | in_default w ↦ subst (λ t. Loads s t c.match-node.loads) (sym m) (subst (Loads s _) (sym w.loads-is)
          (load-pass s _ c.loop-v.loads c.loop-v.invariant _ (rack-off s _ w.in_default.ensures)))
    ]
