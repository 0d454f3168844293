use Rattle.std.proofs.Common.{◌≡◌, length, ap, ◌∙◌, subst}
use Rattle.store.specs.Ledger.{ledger}
use Rattle.history.specs.Runs.{calls_of, AllAnswered, Alike}
use Rattle.history.proofs.Alike.{runs-alike}
use Rattle.history.proofs.Running.{calls-long}
use Rattle.history.proofs.runs.run_both.Goals as goal

pub returns-clause-second : goal.returns-clause-second
returns-clause-second g c =
    let t = g.N.SiteMap.meaning c.args.other in
    let calls = c.args.calls.now in
    let second = c.run-second.ensures in
    let n : length c.run-first.new.rows ≡ length c.args.rows.now = c.run-first.auto.rows in
    (second.map, second.ledger ∙ ap (λ x. ledger t (calls_of calls x)) n, subst (λ x. AllAnswered t x (calls_of calls x) c.run-second.new.answers) n second.answers)

pub returns-clause-alike : goal.returns-clause-alike
returns-clause-alike g c e =
    let s = g.M.SiteMap.meaning c.args.map in
    let t = g.N.SiteMap.meaning c.args.other in
    let calls = c.args.calls.now in
    let room = length c.args.rows.now in
    let second = subst (λ x. AllAnswered t x (calls_of calls x) c.run-second.new.answers) c.run-first.auto.rows c.run-second.ensures.answers in
    subst (λ k. Alike k c.run-first.new.answers c.run-second.new.answers) (calls-long calls room) (runs-alike s t room (calls_of calls room) c.run-first.new.answers c.run-second.new.answers e c.run-first.ensures.answers second)
