use Rattle.std.proofs.Common.{◌≡◌, ◌<◌, [], length, get_or, sym, ap, ◌∙◌, arith}
use Rattle.std.proofs.lemmas.Option.{get_or_from_slice_get}
use Rattle.placement.specs.Seats.{list_at}
use Rattle.placement.proofs.Narrowed.{its-read, vain-more, listed, narrows-more, narrows-some}
use Rattle.placement.proofs.first.Settling.settle.Goals as goal
use Rattle.placement.proofs.first.Settling.settle.Goals.{After-as_slice-v-items}

-- the seats that the loop goes over are those of the block
listed_there : (c : After-as_slice-v-items) → c.as_slice-v-items.result.now ≡ list_at c.args.self.now.seats c.args.i
listed_there c =
    c.as_slice-v-items.ensures.value ∙ sym (get_or_from_slice_get c.args.self.now.seats c.args.i c.in-Some.list [] (sym c.in-Some.ensures))

pub loop-v-preserved : goal.loop-v-preserved
loop-v-preserved c = λ s k ds h.
    let is = listed_there (goal.at.loop-v-preserved c).After-as_slice-v-items in
    let o = c.loop-v.invariant s k ds h in
    let f = c.if-try_seat.ensures.2 s k ds o.0 in
    (f.0, vain-more s k ds c.args.i c.loop-v.v-index o.1 (λ m. f.1 c.loop-v.v-index (its-read s k ds c.args.self.now h c.args.i c.loop-v.v-index c.as_slice-v-items.result.now is m)))

pub returns-then-try_seat : goal.returns-then-try_seat
returns-then-try_seat c = λ s k bs l h.
    let is = listed_there (goal.at.returns-then-try_seat c).After-as_slice-v-items in
    let m : c.loop-v.v-index < length (get_or h.lists c.args.i []) = omega (arith, c.loop-v-test.true, ap length is, listed s k bs c.args.i c.args.self.now h l) in
    let o = c.loop-v.invariant s k h.lists h.standing in
    narrows-more s k bs c.args.i c.args.self.now h l c.loop-v.v-index m o.1 _
    (c.if-try_seat.ensures s k h.lists c.loop-v.v-index o.0 (its-read s k h.lists c.args.self.now h.standing c.args.i c.loop-v.v-index c.as_slice-v-items.result.now is m))

pub returns : goal.returns
returns c = λ s k bs l h.
    let is = listed_there (goal.at.returns c).After-as_slice-v-items in
    absurd (narrows-some s k bs c.args.i c.args.self.now h l c.loop-v.v-index (omega (arith, c.loop-v-test.false, ap length is)) (c.loop-v.invariant s k h.lists h.standing).1)
