use Rattle.std.proofs.Common.{◌≡◌, ℕ, ◌<◌, ◌≤◌, ◌∷◌, [], ◌++◌, List, None, Option, length, take, get_or, sym, ap, ◌∙◌, arith}
use Rattle.std.proofs.lemmas.List.{length-map, length-take-le, get_or-take, map_push}
use Rattle.std.proofs.lemmas.List.FromFn.{length-map-range_with_len, map-range_with_len_more}
use Rattle.blocks.specs.Lists.{node_numbers}
use Rattle.fixed.proofs.Pushes.{pushed}
use Rattle.placement.specs.declared.seat.Seat.{Seat}
use Rattle.placement.specs.Seats.{node_of, node_at}
use Rattle.placement.specs.Firsts.{placed}
use Rattle.placement.proofs.first.Settling.nodes.Goals as goal

front-read : (n i : ℕ) (at items : List (Option Seat)) → items ≡ take n at → n ≤ length at → i < length items → node_of (get_or items i None) ≡ node_at at i
front-read n i at items e l h = ap (λ z. node_of (get_or z i None)) e ∙ ap node_of (get_or-take n at i None (omega (arith, l, h, ap length e, length-take-le n at l)))

pub loop-seat-preserved : goal.loop-seat-preserved
loop-seat-preserved c =
    let at = c.args.self.now.sat.at in
    let i = c.loop-seat.seat-index in
    let n : c.len.result ≤ length at = omega (arith, c.len.ensures.few, c.args.self.now.sat.places) in
    let long : length c.loop-seat.nodes ≡ i = sym (length-map c.loop-seat.nodes (λ v. v.0)) ∙ ap length c.loop-seat.invariant ∙ length-map-range_with_len (node_at at) 0 i in
    let few : length c.front-seat-items.result.now ≤ 17 = omega (arith, c.len.ensures.few, ap length c.front-seat-items.ensures, length-take-le c.len.result at n) in
    let p = pushed 24 c.loop-seat.nodes c.push.new.self c.node_of_seat.result c.push.result c.push.ensures (omega (arith, long, few, c.loop-seat-test.true)) in
    ap node_numbers p ∙ map_push (λ v. v.0) c.loop-seat.nodes c.node_of_seat.result
    ∙ ap (λ z. z ++ c.node_of_seat.result.0 ∷ []) c.loop-seat.invariant
    ∙ ap (λ u. placed i at ++ u ∷ []) (c.node_of_seat.ensures ∙ front-read c.len.result i at c.front-seat-items.result.now c.front-seat-items.ensures n c.loop-seat-test.true)
    ∙ sym (map-range_with_len_more (node_at at) 0 i i (omega arith))

pub returns-clause-few : goal.returns-clause-few
returns-clause-few c =
    let at = c.args.self.now.sat.at in
    let n : c.len.result ≤ length at = omega (arith, c.len.ensures.few, c.args.self.now.sat.places) in
    let most : length c.front-seat-items.result.now ≤ 17 = omega (arith, c.len.ensures.few, ap length c.front-seat-items.ensures, length-take-le c.len.result at n) in
    omega (arith, most, ap length c.loop-seat.invariant, length-map-range_with_len (node_at at) 0 c.loop-seat.seat-index, c.loop-seat.auto.seat-index-end)
