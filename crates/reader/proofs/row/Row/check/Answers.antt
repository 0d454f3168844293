use Rattle.std.proofs.Common.{◌≡◌, ℕ, ◌+◌, true, get_or, drop, is_ok, Ok, Err, Result, refl, sym, ap, ◌∙◌, subst, arith, rules, tests}
use Rattle.std.proofs.lemmas.Result.{err_from_is_err_and}
use Rattle.text.specs.Cells.{cells_left, end_of}
use Rattle.text.specs.Faults.{Least}
use Rattle.text.specs.declared.fault.FaultKind.{FaultKind}
use Rattle.reader.specs.Wants.{Misfit, Fit, Judged}
use Rattle.reader.specs.ValueRows.{FaultOf}
use Rattle.reader.proofs.RowLaws.{least-same, clean-same, same_then, at_name, at-end, lexer-rises, wrong-field, right-field, no_field, extra-field, all_read}
use Rattle.reader.proofs.row.Row.check.Goals as goal

ok-of : {A B : Type 0} (r : Result A B) → is_ok r ≡ true → (u : A) × (r ≡ Ok u)
ok-of (Ok u) e = (u, refl)
ok-of (Err k) e = let z : ◌≡◌ {A = ℕ} 0 1 = cc in absurd (omega arith)

pub returns-in_err-map_err-in-Field : goal.returns-in_err-map_err-in-Field
returns-in_err-map_err-in-Field c =
    let l = c.loop-name.lexer in
    let order = c.args.self.order.now in
    let n = c.loop-name.name-index in
    let row = FaultOf c.args.self c.args.form in
    let k : (k : FaultKind) × (c.judge.result ≡ Err k) × (c.in_err-map_err-in-Field.field-0.0 ≡ record { kind = k; place = c.in-Field.place }) = search (rules, tests) in
    let m = subst (Judged c.wants.result c.in-Field.bytes.now) k.1 c.judge.ensures in
    let p = err_from_is_err_and c.from_residual.result c.from_residual.ensures.1 in
    rw (p.1, p.2) (subst (Least row) (sym k.2)
    (least-same _ row _ (at_name c.args.form l.place.line (end_of l) order n (cells_left l) row c.loop-name.invariant (omega arith))
    (wrong-field c.args.form l.place.line (end_of l) (get_or order n 0) (drop (n + 1) order) (cells_left l) _ l.place.column _ _ c.in-Field.bytes c.in-Field.place k.0 c.in-Field.ensures (lexer-rises l)
    (subst (λ w. Misfit w c.in-Field.bytes.now k.0) c.wants.ensures m.0) (λ j q. m.1 j (subst (λ w. Misfit w c.in-Field.bytes.now j) (sym c.wants.ensures) q)))))

pub returns-in-End : goal.returns-in-End
returns-in-End c =
    let l = c.loop-name.lexer in
    let order = c.args.self.order.now in
    let n = c.loop-name.name-index in
    let row = FaultOf c.args.self c.args.form in
    least-same _ row _ (at_name c.args.form l.place.line (end_of l) order n (cells_left l) row c.loop-name.invariant (omega arith))
    (no_field c.args.form l.place.line (end_of l) (get_or order n 0) (drop (n + 1) order) (cells_left l) _ _ _ c.in-End.place c.in-End.ensures)

pub loop-name-preserved : goal.loop-name-preserved
loop-name-preserved c =
    let l = c.loop-name.lexer in
    let order = c.args.self.order.now in
    let n = c.loop-name.name-index in
    let row = FaultOf c.args.self c.args.form in
    let k = ok-of c.judge.result (sym c.map_err.ensures.variant ∙ ap is_ok c.in_ok-map_err-in-Field.was) in
    let fit = subst (Judged c.wants.result c.in-Field.bytes.now) k.1 c.judge.ensures in
    same_then _ _ row
    (right-field c.args.form l.place.line (end_of l) (get_or order n 0) (drop (n + 1) order) (cells_left l) _ _ _ c.in-Field.bytes c.in-Field.place c.in-Field.ensures
    (subst (λ w. Fit w c.in-Field.bytes.now) c.wants.ensures fit))
    (at_name c.args.form l.place.line (end_of l) order n (cells_left l) row c.loop-name.invariant (omega arith))

pub returns-in-Field-next_token : goal.returns-in-Field-next_token
returns-in-Field-next_token c =
    let l = c.loop-name.lexer in
    let order = c.args.self.order.now in
    let n = c.loop-name.name-index in
    let row = FaultOf c.args.self c.args.form in
    least-same _ row _ (at-end c.args.form l.place.line (end_of l) order n (cells_left l) row c.loop-name.invariant (omega arith))
    (extra-field c.args.form l.place.line (end_of l) (cells_left l) _ l.place.column _ _ c.in-Field-next_token.bytes c.in-Field-next_token.place c.in-Field-next_token.ensures (lexer-rises l))

pub returns-in-End-next_token : goal.returns-in-End-next_token
returns-in-End-next_token c =
    let l = c.loop-name.lexer in
    let order = c.args.self.order.now in
    let n = c.loop-name.name-index in
    let row = FaultOf c.args.self c.args.form in
    clean-same _ row (at-end c.args.form l.place.line (end_of l) order n (cells_left l) row c.loop-name.invariant (omega arith))
    (all_read c.args.form l.place.line (end_of l) (cells_left l) _ _ _ c.in-End-next_token.place c.in-End-next_token.ensures)
