use Rattle.std.proofs.Common.{[], length, set, None, sym, refl, ap, ◌∙◌, subst, arith}
use Rattle.std.proofs.lemmas.Option.{slice_get-get_or, get_or_from_slice_get}
use Rattle.site.specs.Site.{node_rack}
use Rattle.choices.specs.Hall.{usable}
use Rattle.choices.specs.Order.{narrow}
use Rattle.placement.specs.Seats.{node_of, Settled, Placing, Crowding}
use Rattle.placement.proofs.Seated.{restored, at-node}
use Rattle.placement.proofs.Resolves.{seats-long}
use Rattle.placement.proofs.Narrowed.{inside-of, standing-same, narrow-there, narrow-sat, narrow-placing, narrow-none}
use Rattle.placement.proofs.first.Settling.try_seat.Goals as goal

pub returns-in_default : goal.returns-in_default
returns-in_default c = (
  refl,
  refl,
  λ s k ds h. (
    h,
    λ j m.
        absurd (c.in_default.not-Some _ (c.get.ensures ∙ slice_get-get_or c.args.self.now.seats c.args.i [] (omega (arith, inside-of ds c.args.i j m.0, seats-long s ds c.args.self.now.seats h.seating)))),
  ),
)

pub returns-then-is_at : goal.returns-then-is_at
returns-then-is_at c = λ s k ds j h m.
    narrow-there s k ds c.args.self.now h c.args.i j c.args.v m _ (c.set.ensures ∙ ap (set c.args.self.now.seats c.args.i) c.alone.ensures) refl
    (c.put.ensures.at ∙ ap (set c.put-had.new.self.at c.args.i) c.put-had.ensures.had ∙ restored c.args.self.now.sat.at c.args.self.now.sat.at c.put-had.new.self.at c.args.i None None refl c.put-had.ensures.at)
    (ap node_of (sym c.put-had.ensures.had) ∙ at-node c.args.v.node.0 c.put-had.result (sym c.is_at.ensures ∙ c.if-is_at.true))

pub returns-in-Ok : goal.returns-in-Ok
returns-in-Ok c = λ s k ds j h m.
    let left = c.set.ensures ∙ ap (set c.args.self.now.seats c.args.i) c.alone.ensures in
    let p = narrow-placing s k ds c.args.self.now h c.args.i j c.args.v m c.put-had.new.self.at c.put-had.ensures.at c.as_slice.result.now (c.as_slice.ensures.value ∙ left) in
    narrow-sat s k ds c.args.self.now h c.args.i j c.args.v m _ left refl
    (subst (λ z. Settled (node_rack s) (usable s (narrow ds c.args.i j)) (length ds) z c.extend.new.sat.at) h.most
    (c.in-Ok.ensures (node_rack s) (usable s (narrow ds c.args.i j)) (length s) (length ds)
    (subst (λ z. Placing (node_rack s) (usable s (narrow ds c.args.i j)) (length s) (length ds) z c.as_slice.result.now c.put-had.new.self.at c.args.i) (sym h.most) p)))

pub returns-in-Err : goal.returns-in-Err
returns-in-Err c =
    let left = c.set.ensures ∙ ap (set c.args.self.now.seats c.args.i) c.alone.ensures in
    let lists = c.set-in-Err.ensures ∙ ap (set c.set.new.self c.args.i) (sym (get_or_from_slice_get c.args.self.now.seats c.args.i c.in-Some.list [] (sym c.in-Some.ensures)))
    ∙ restored c.args.self.now.seats c.args.self.now.seats c.set.new.self c.args.i c.alone.result [] refl c.set.ensures in
    let sat = c.put-in-Err.ensures.at ∙ ap (set c.extend.new.sat.at c.args.i) c.put-had.ensures.had
    ∙ restored c.args.self.now.sat.at c.args.self.now.sat.at c.extend.new.sat.at c.args.i None None refl (c.in-Err.ensures.0 ∙ c.put-had.ensures.at) in (
      lists,
      sat,
      λ s k ds h. (
        standing-same s k ds c.args.self.now _ lists refl sat h,
        λ j m.
            let p = narrow-placing s k ds c.args.self.now h c.args.i j c.args.v m c.put-had.new.self.at c.put-had.ensures.at c.as_slice.result.now (c.as_slice.ensures.value ∙ left) in
            narrow-none s k ds c.args.self.now h c.args.i j c.args.v m _
            (subst (λ z. Crowding (node_rack s) (usable s (narrow ds c.args.i j)) (length s) (length ds) z c.in-Err.field-0) h.most
            (c.in-Err.ensures.1 (node_rack s) (usable s (narrow ds c.args.i j)) (length s) (length ds)
            (subst (λ z. Placing (node_rack s) (usable s (narrow ds c.args.i j)) (length s) (length ds) z c.as_slice.result.now c.put-had.new.self.at c.args.i) (sym h.most) p))),
      ),
    )
