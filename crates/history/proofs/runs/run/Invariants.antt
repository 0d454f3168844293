use Rattle.std.proofs.Common.{◌≡◌, map, length, take, drop}
use Rattle.store.specs.Ledger.{ledger}
use Rattle.store.specs.Table.{ledger_of}
use Rattle.store.specs.Answers.{shown}
use Rattle.history.specs.Runs.{calls_of, rows_left}
use Rattle.history.proofs.Running.{Sofar}
use Rattle.history.proofs.runs.run.Given as goal

abbrev pub invariant-loop-i : goal.invariant-loop-i
invariant-loop-i g l =
    let s = g.M.SiteMap.meaning l.initial.store.map in
    let room = length l.initial.rows in
    let cs = calls_of l.calls room in
    (l.store.map ≡ l.initial.store.map) × (ledger_of l.store ≡ ledger s (take l.i cs)) × Sofar s room cs l.i l.answers × (drop l.i l.answers ≡ drop l.i l.initial.answers) × (map shown l.rows ≡ rows_left s (take l.i cs) (map shown l.initial.rows))
