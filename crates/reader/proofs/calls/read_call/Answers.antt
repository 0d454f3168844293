use Rattle.std.proofs.Common.{◌≡◌, ap, ◌∙◌, subst, take, rules, tests}
use Rattle.std.proofs.lemmas.Result.{err_from_is_err_and}
use Rattle.text.specs.Faults.{Least}
use Rattle.reader.specs.declared.form.Form.TheVariants.{Call}
use Rattle.reader.specs.Rows.{RowFault, held}
use Rattle.reader.specs.Calls.{call_of}
use Rattle.reader.proofs.CallLaws.{call-read, act-named}
use Rattle.reader.proofs.calls.read_call.Goals as goal

pub returns-in_err-check : goal.returns-in_err-check
returns-in_err-check c =
    let known : c.and_then-act.result ≡ call_of (held c.field.result) = act-named c.field.result c.and_then-act.result (search (rules, tests)) in
    let p = err_from_is_err_and c.from_residual.result c.from_residual.ensures.1 in
    rw (p.1, p.2) (subst (λ act. Least (RowFault (Call act) c.args.order.now c.args.line.number (take 65536 c.args.line.bytes.now)) c.in_err-check.field-0.0) (known ∙ ap call_of c.field.ensures) c.in_err-check.ensures)

pub returns : goal.returns
returns c =
    let known : c.and_then-act.result ≡ call_of (held c.field.result) = act-named c.field.result c.and_then-act.result (search (rules, tests)) in
    call-read _ _ _ c.and_then-act.result c.unwrap_or-act.result _ (known ∙ ap call_of c.field.ensures) c.in_ok-check.ensures c.unwrap_or-act.ensures c.asked.ensures.act c.asked.ensures.rest c.number-first.ensures.text
