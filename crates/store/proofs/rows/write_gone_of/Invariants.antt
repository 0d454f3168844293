use Rattle.std.proofs.Common.{◌≡◌, ◌+◌, ◌≤◌, ◌++◌, length, take, drop}
use Rattle.blocks.specs.Blocks.{copies_of}
use Rattle.store.specs.Answers.{lines}
use Rattle.store.proofs.Written.{gone_to}
use Rattle.store.proofs.rows.write_gone_of.Given as goal

abbrev pub invariant-loop-w : goal.invariant-loop-w
invariant-loop-w g l =
    let done = gone_to (g.M.SiteMap.meaning l.map) l.block.number (copies_of l.block) l.stays.0 l.w-index in
    (l.end ≡ l.at + length done) × (l.end ≤ l.at + l.w-index)
    × (l.end ≤ length l.initial.rows → lines l.rows ≡ take l.at (lines l.initial.rows) ++ (done ++ drop l.end (lines l.initial.rows)))
