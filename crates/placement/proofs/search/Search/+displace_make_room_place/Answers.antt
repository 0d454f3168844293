use Rattle.std.proofs.Common.{ℕ, ◌<◌, set, Some, None, sym, refl, ap, ◌∙◌, subst, arith}
use Rattle.choices.specs.Search.{unseen}
use Rattle.choices.proofs.Words.{below-lowest}
use Rattle.choices.proofs.Steps as steps
use Rattle.placement.specs.Seats.{Blockers, Settled}
use Rattle.placement.proofs.Sets.{with-below}
use Rattle.placement.proofs.Lowest as lowest
use Rattle.placement.proofs.Seated as seated
use Rattle.placement.proofs.search.Search.+displace_make_room_place.Goals as goal
use Rattle.placement.proofs.search.Search.+displace_make_room_place.Goals.{displace-After-into_iter-y-iterator}

-- the blockers are those that the loop goes over
kept : (t : ℕ) (c : displace-After-into_iter-y-iterator t) → Blockers c.args.self.now.c c.args.sat.now.at c.args.v (Some c.into_iter-y-iterator.result.left)
kept t c =
    subst (λ b. Blockers c.args.self.now.c c.args.sat.now.at c.args.v (Some b))
    (sym (ap (λ z. z.left) c.into_iter-y-iterator.ensures.into_iter_gives ∙ c.of-y-items.ensures)) c.in-Some.ensures

pub displace-returns-in_default : goal.displace-returns-in_default
displace-returns-in_default t c = λ w g own.
    subst (λ z. Settled w.rack w.U w.n c.args.self.now.c z) (sym c.put.ensures.at)
    (seated.opened w _ _ c.args.self.now.few _ c.args.sat.now.places _ _ g c.args.v own c.in_default.ensures)

pub displace-loop-y-init : goal.displace-loop-y-init
displace-loop-y-init t c =
    let k = kept t c in (
      tt,
      tt,
      omega arith,
      refl,
      λ k m. m,
      λ k _ m. m,
      λ w g own y l h. seated.tried_none w _ _ c.args.self.now.few _ c.args.sat.now.places _ _ g c.args.v own _ k y l (λ k j. below-lowest 32 _ k (omega (arith, j, h))),
    )

pub displace-loop-y-preserved-then-has : goal.displace-loop-y-preserved-then-has
displace-loop-y-preserved-then-has t c =
    let b = kept t (goal.at.displace-loop-y-preserved-then-has t c).After-into_iter-y-iterator in
    let s = c.in-Some-y.ensures.steps in
    let i = c.loop-y.invariant in (
      tt,
      tt,
      i.2,
      i.3,
      lowest.of-them _ _ _ _ s.2 s.1 s.3 s.4 i.4,
      lowest.all_left _ _ _ _ s.2 s.1 s.3 s.4 i.5,
      λ w g own y l h.
          let o = seated.of-y w _ _ c.args.self.now.few _ c.args.sat.now.places _ _ g c.args.v own _ b _ (i.4 _ s.1) in
          seated.passed w _ _ c.args.self.now.few _ c.args.sat.now.places _ _ g c.args.v own _ b _ (i.4 _ s.1) _ y
          (i.6 w g own _ (omega (arith, o.0)) (omega (arith, s.2))) (sym c.has.ensures ∙ c.if-has.true) l
          (λ j p q. lowest.none_between _ _ _ _ s.2 s.1 s.3 s.4 i.5 j p (omega (arith, q, h))),
    )

pub displace-place-requires : goal.displace-place-requires
displace-place-requires t c =
    let s = c.in-Some-y.ensures.steps in
    let f : unseen 32 c.with.result < unseen 32 c.loop-y.grown =
    steps.marks 32 c.loop-y.grown c.in-Some-y.y c.with.result s.0 (with-below _ _ _ s.0 c.with.ensures) (sym c.has.ensures ∙ c.if-has.false) in
    (omega (arith, c.loop-y.invariant.2), tt)

pub displace-returns-in-Ok : goal.displace-returns-in-Ok
displace-returns-in-Ok t c = λ w g own.
    let b = kept t (goal.at.displace-returns-in-Ok t c).After-into_iter-y-iterator in
    let s = c.in-Some-y.ensures.steps in
    c.in-Ok.ensures (seated.told-move w c.args.x c.args.v.node.0)
    (seated.next w _ _ c.args.self.now.few _ c.args.sat.now.places _ _ g c.args.v own _ b _ (c.loop-y.invariant.4 _ s.1) _ _ (with-below _ _ _ s.0 c.with.ensures) _
    (c.put-had.ensures.at ∙ ap (λ z. set z c.args.x (Some c.args.v)) (c.put-left.ensures.at ∙ ap (λ z. set z c.in-Some-y.y None) c.loop-y.invariant.3)))

pub displace-loop-y-preserved : goal.displace-loop-y-preserved
displace-loop-y-preserved t c =
    let b = kept t (goal.at.displace-loop-y-preserved t c).After-into_iter-y-iterator in
    let s = c.in-Some-y.ensures.steps in
    let i = c.loop-y.invariant in
    let k = c.in-Err.ensures in
    let f : unseen 32 c.with.result < unseen 32 c.loop-y.grown =
    steps.marks 32 c.loop-y.grown c.in-Some-y.y c.with.result s.0 (with-below _ _ _ s.0 c.with.ensures) (sym c.has.ensures ∙ c.if-has.false) in (
      tt,
      tt,
      omega (arith, k.fewer, i.2),
      seated.undone _ _ _ _ _ _ _ c.args.x c.in-Some-y.y (Some c.args.v) _ _ i.3 c.put-left.ensures.had c.put-left.ensures.at c.put-had.ensures.had c.put-had.ensures.at k.same c.put-in-loop-y.ensures.at c.put-in-loop-y-2.ensures.at,
      lowest.of-them _ _ _ _ s.2 s.1 s.3 s.4 i.4,
      lowest.all_left _ _ _ _ s.2 s.1 s.3 s.4 i.5,
      λ w g own y l h.
          let o = seated.of-y w _ _ c.args.self.now.few _ c.args.sat.now.places _ _ g c.args.v own _ b _ (i.4 _ s.1) in
          seated.retried w _ _ c.args.self.now.few _ c.args.sat.now.places _ _ g c.args.v own _ b _ (i.4 _ s.1) _ _ _ y
          (i.6 w g own _ (omega (arith, o.0)) (omega (arith, s.2))) (sym c.has.ensures ∙ c.if-has.false) (with-below _ _ _ s.0 c.with.ensures)
          (k.failed (seated.told-move w c.args.x c.args.v.node.0)
          (seated.next w _ _ c.args.self.now.few _ c.args.sat.now.places _ _ g c.args.v own _ b _ (i.4 _ s.1) _ _ (with-below _ _ _ s.0 c.with.ensures) _
          (c.put-had.ensures.at ∙ ap (λ z. set z c.args.x (Some c.args.v)) (c.put-left.ensures.at ∙ ap (λ z. set z c.in-Some-y.y None) i.3)))) l
          (λ j p q. lowest.none_between _ _ _ _ s.2 s.1 s.3 s.4 i.5 j p (omega (arith, q, h))),
    )

pub displace-returns : goal.displace-returns
displace-returns t c =
    let b = kept t (goal.at.displace-returns t c).After-into_iter-y-iterator in
    record {
      same = c.loop-y.invariant.3;
      fewer = c.loop-y.invariant.2;
      blocked = λ w g own.
          seated.tried_all w _ _ c.args.self.now.few _ c.args.sat.now.places _ _ g c.args.v own _ b _
          (c.loop-y.invariant.6 w g own w.n (omega arith)
          (omega (arith, g.sits.long, c.args.self.now.few, lowest.none_left c.loop-y.y-iterator.left (omega (arith, c.in-None.ensures.steps.0)))));
    }

pub make_room-loop-v-preserved : goal.make_room-loop-v-preserved
make_room-loop-v-preserved t c =
    let k = c.in-Err.ensures in
    let i = c.loop-v.invariant in (
      omega (arith, k.fewer, i.0),
      k.same ∙ i.1,
      λ w g.
          steps.passing-more w.n w.N 32 _ w.rack w.U w.a _ _ _ _ _ _ (i.2 w g)
          (k.blocked w (seated.same w _ _ _ _ _ _ _ g i.1 (i.2 w g).grown)
          (seated.own-seat w _ _ c.args.self.now.few _ c.args.sat.now.places _ _ g c.list-v-items.result.now c.list-v-items.ensures c.loop-v.v-index c.loop-v-test.true)),
    )

pub place-returns-in-Some : goal.place-returns-in-Some
place-returns-in-Some t c = λ w g.
    subst (λ z. Settled w.rack w.U w.n c.args.self.now.c z) (sym c.put.ensures.at)
    (seated.offered w _ _ c.args.self.now.few _ c.args.sat.now.places _ _ g _ c.in-Some.ensures)
