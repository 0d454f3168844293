use Rattle.std.proofs.Common.{◌≡◌, ◌+◌, ◌<◌, ◌≤◌, map, length, get_or, take, drop, sym, ap, ◌∙◌, subst, arith}
use Rattle.store.specs.declared.types.Call.TheVariants as call
use Rattle.store.specs.Ledger.{ledger}
use Rattle.store.specs.Told.{Since}
use Rattle.store.specs.Table.{ledger_of, call_of}
use Rattle.store.specs.Answers.{shown}
use Rattle.history.specs.Runs.{calls_of, AllAnswered}
use Rattle.history.proofs.Running.{Sofar, run-ledger, run_more, past_more, rows_more, run-all, call_at, calls-long}
use Rattle.history.proofs.runs.run.Goals as goal

pub returns-clause-answers : goal.returns-clause-answers
returns-clause-answers g c =
    let room = length c.args.rows.now in
    let cs = calls_of c.args.calls.now room in
    let mean = g.M.SiteMap.meaning in
    let end : length cs ≤ c.loop-i.i = omega (arith, calls-long c.args.calls.now room, c.loop-i-test.false) in
    subst (λ x. AllAnswered (mean x) room cs c.loop-i.answers) c.new-store.ensures.map (run-all (mean c.new-store.result.map) room cs c.loop-i.i c.loop-i.answers end c.loop-i.invariant.2)

pub loop-i-preserved : goal.loop-i-preserved
loop-i-preserved g c =
    let inv = c.loop-i.invariant in
    let i = c.loop-i.i in
    let room = length c.args.rows.now in
    let calls = c.args.calls.now in
    let cs = calls_of calls room in
    let d = call.SetUp 0 0 0 in
    let q = call_of (get_or calls i d) room in
    let mean = g.M.SiteMap.meaning in
    let s = mean c.new-store.result.map in
    let h : i < length cs = omega (arith, calls-long calls room, c.loop-i-test.true) in
    let is : get_or cs i q ≡ q = call_at calls room i d c.loop-i-test.true in
    let same : mean c.loop-i.store.map ≡ s = ap mean inv.0 in
    let raw = c.call-answer.ensures.since (take i cs) (inv.1 ∙ ap (λ x. ledger x (take i cs)) (sym same)) in
    let t : Since s (take i cs) q (ledger_of c.call-answer.new.self) c.call-answer.result c.loop-i.rows c.call-answer.new.rows =
    subst (λ n. Since s (take i cs) (call_of (get_or calls i d) n) (ledger_of c.call-answer.new.self) c.call-answer.result c.loop-i.rows c.call-answer.new.rows) c.loop-i.auto.rows
    (subst (λ x. Since x (take i cs) (call_of (get_or calls i d) (length c.loop-i.rows)) (ledger_of c.call-answer.new.self) c.call-answer.result c.loop-i.rows c.call-answer.new.rows) same raw) in (
      c.call-answer.ensures.told.kept ∙ inv.0,
      run-ledger s room cs i h q is (ledger_of c.call-answer.new.self) t.ledgered,
      subst (Sofar s room cs (i + 1)) (sym c.put.ensures) (run_more s room cs i h q is c.loop-i.answers c.call-answer.result (ledger_of c.call-answer.new.self) c.loop-i.rows c.call-answer.new.rows inv.2 t c.loop-i.auto.rows),
      ap (drop (i + 1)) c.put.ensures ∙ past_more i c.args.answers.now c.loop-i.answers c.call-answer.result inv.3,
      rows_more s cs i h q is c.call-answer.result c.loop-i.rows c.call-answer.new.rows (map shown c.args.rows.now) t.answered inv.4,
    )
