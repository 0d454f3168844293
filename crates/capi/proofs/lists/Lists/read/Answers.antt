use Rattle.std.proofs.Common.{◌≡◌, ◌*◌, ◌<◌, length, get_or, drop, take, ap, ◌∙◌, arith, below_more}
use Rattle.std.proofs.lemmas.List.{length-map}
use Rattle.std.proofs.lemmas.List.FromFn.{length-map-range_with_len}
use Rattle.blocks.specs.Blocks.{copies_of}
use Rattle.fixed.proofs.Pushes.{pushed}
use Rattle.capi.specs.Lists.{list_at}
use Rattle.capi.proofs.Taken.{one-read, entries-front}
use Rattle.capi.proofs.lists.Lists.read.Goals as goal

pub loop-i-preserved : goal.loop-i-preserved
loop-i-preserved c = λ none.
    let vs = c.args.self.now.nodes.now in
    let ns = c.args.self.now.lens.now in
    let i = c.loop-i.i in
    let block = c.in_ok-read_block.field-0 in
    let read = c.in_ok-read_block.ensures in
    let got = rw c.in_ok-list.ensures.ok_part at c.get.ensures.lookup in
    let n : c.from.result ≡ get_or ns i 0 = c.from.ensures in
    let list : copies_of block ≡ list_at vs ns i = read.1 ∙ got.0.2 ∙ entries-front vs (8 * i) c.from.result ∙ ap (λ m. take m (drop (8 * i) vs)) n in
    let few : length c.loop-i.blocks < 16 =
    omega (arith, length-map c.loop-i.blocks copies_of, ap length (c.loop-i.invariant none).0, length-map-range_with_len (list_at vs ns) 0 i) in (
      one-read vs ns i c.loop-i.blocks c.push.new.self block (c.loop-i.invariant none).0 list (pushed 16 c.loop-i.blocks c.push.new.self block c.push.result c.push.ensures few),
      below_more _ _ (c.loop-i.invariant none).1 (omega (arith, read.0, got.0.3), omega (arith, read.0, got.0.3)),
    )
