use Rattle.std.proofs.Common.{◌≡◌, ◌≤◌, ◌++◌, length, take, drop}
use Rattle.blocks.specs.Lists.{node_numbers}
use Rattle.store.specs.Answers.{lines, plan_rows}
use Rattle.store.specs.Table.{helds_of}
use Rattle.store.proofs.rows.write_plan.Given as goal

abbrev pub invariant-loop-i : goal.invariant-loop-i
invariant-loop-i g l =
    length (node_numbers l.plan) ≤ length l.initial.rows
    → lines l.rows ≡ plan_rows (g.M.SiteMap.meaning l.map) (helds_of l.blocks) (take l.i (node_numbers l.plan)) ++ drop l.i (lines l.initial.rows)
