use Rattle.std.proofs.Common.{◌≡◌, ℕ, refl, ap, arith}
use Rattle.text.specs.Rows.{left_of}
use Rattle.store.specs.declared.store.Store.{Store}
use Rattle.sheet.proofs.Begins.{begun, unbegun-refused}
use Rattle.sheet.proofs.run.Run.begin.Goals as goal

pub returns : goal.returns
returns g c =
    let was = c.args.self.now in
    let lines = c.read_calls.new.lines in
    let is = c.in_ok-self.field-0 in
    record {
      map = c.in_ok-call.ensures.told.kept;
      refused = λ e h. absurd (let z : ◌≡◌ {A = ℕ} 0 1 = cc in omega arith);
      begun = λ new.
          let b = begun (g.M.SiteMap.meaning was.store.map) c.args.code was.lines.number (left_of was.lines) is lines c.call.new.self c.in_ok-call.field-0 _ c.call.new.rows
          (c.in_ok-call.ensures.since _ new) c.in_ok-self.ensures.read in
          (is, left_of lines, b.0, b.1, b.2);
    }

pub returns-in_err-call : goal.returns-in_err-call
returns-in_err-call g c =
    let was = c.args.self.now in
    let told = c.in_err-call.ensures.told in
    let e = c.in_err-call.field-0.0 in
    record {
      map = told.kept;
      refused = λ _ _. ap (λ (x : Store g.row.M.Denot). record { lines = was.lines; order = was.order; store = x }) (told.refused refl).0;
      begun = λ new.
          unbegun-refused (g.M.SiteMap.meaning was.store.map) c.args.code (left_of was.lines) was.lines.number c.from_residual.result
          (record { lines = was.lines; order = was.order; store = c.call.new.self }) e c.from_residual.ensures
          _ _ _ (c.in_err-call.ensures.since _ new);
    }
