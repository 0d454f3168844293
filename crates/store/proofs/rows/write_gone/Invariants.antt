use Rattle.std.proofs.Common.{◌≡◌, ◌+◌, ◌*◌, ◌≤◌, List, ◌++◌, map, length, drop}
use Rattle.blocks.specs.Blocks.{numbers}
use Rattle.blocks.specs.Lists.{node_numbers}
use Rattle.store.specs.Answers.{Line, lines, gone_rows}
use Rattle.store.specs.Table.{held_of, helds_of}
use Rattle.store.proofs.rows.write_gone.Given as goal

-- the rows that are written, and those of the blocks and nodes still to come
abbrev pub invariant-loop-block : goal.invariant-loop-block
invariant-loop-block g l =
    let s = g.M.SiteMap.meaning l.map in
    let bs = l.block-iterator.a.rest.now in
    let vs = l.block-iterator.b.rest.now in
    (done : List Line) × (done ++ gone_rows s (map held_of bs) (numbers vs) ≡ gone_rows s (helds_of l.blocks) (node_numbers l.plan))
    × (l.at ≡ length done) × (l.at + 8 * length bs ≤ 128)
    × (l.at ≤ length l.initial.rows → lines l.rows ≡ done ++ drop l.at (lines l.initial.rows))
