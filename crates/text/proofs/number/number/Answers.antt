-- Each way out shows whose decimal text the bytes are, or that they are none's; the value as `number_in` gives it follows.
use Rattle.std.proofs.Common.{◌≡◌, ◌+◌, ◌<◌, length, get_or, take, None, decimal, refl, sym, ap, ◌∙◌, subst, ⊎_elim, arith}
use Rattle.std.specs.Str.Parse.{digits_value, AllDigits}
use Rattle.std.proofs.lemmas.Int.Digits.{digits_value_more, digits_more}
use Rattle.std.specs.Char.{digit_value}
use Rattle.std.proofs.lemmas.Grind.{get_or_default_zero}
use Rattle.std.proofs.lemmas.List.{take_all}
use Rattle.text.proofs.NumberLaws.{not-empty, no-zero-first, all_digits, front-le, is-decimal, none-told, value-told}
use Rattle.text.proofs.number.number.Goals as goal

pub returns-in_err-first : goal.returns-in_err-first
returns-in_err-first c =
    let p = none-told c.args.limit c.args.bytes.now c.from_residual.result c.from_residual.ensures (omega arith) (λ v h e. omega (arith, not-empty _ v (omega arith) e, c.in_err-first.ensures)) in
    record { value = p.0; exact = p.1 }

pub returns-then-bytes-gt1 : goal.returns-then-bytes-gt1
returns-then-bytes-gt1 c =
    let first : get_or c.args.bytes.now 0 0 ≡ 48 = omega (arith, c.in_ok-first.ensures.item, get_or_default_zero c.args.bytes.now 0 c.in_ok-first.field-0.now) in
    let p = none-told c.args.limit c.args.bytes.now None refl (omega arith) (λ v h e. no-zero-first _ v (omega arith) e first (omega arith)) in
    record { value = p.0; exact = p.1 }

pub returns-in_err-digit : goal.returns-in_err-digit
returns-in_err-digit c =
    let p = none-told c.args.limit c.args.bytes.now _ c.from_residual-in_err-digit.ensures (omega arith) (λ v h e.
    let d = all_digits _ v (omega arith) e c.loop-b.b-index (omega arith) in
    omega (arith, d, c.in_err-digit.ensures.cases)) in
    record { value = p.0; exact = p.1 }

pub returns-in_err-checked_mul : goal.returns-in_err-checked_mul
returns-in_err-checked_mul c =
    let p = none-told c.args.limit c.args.bytes.now _ c.from_residual-in_err-checked_mul.ensures (omega arith) (λ v h e.
    omega (arith, front-le _ v (omega arith) e (c.loop-b.b-index + 1), digits_value_more 10 c.args.bytes.now c.loop-b.b-index (omega arith), c.loop-b.invariant.1, c.in_err-checked_mul.ensures)) in
    record { value = p.0; exact = p.1 }

pub returns-in_err-value : goal.returns-in_err-value
returns-in_err-value c =
    let digit = ap digit_value c.from.ensures in
    let p = none-told c.args.limit c.args.bytes.now _ c.from_residual-in_err-value.ensures (omega arith) (λ v h e.
    omega (arith, front-le _ v (omega arith) e (c.loop-b.b-index + 1), digits_value_more 10 c.args.bytes.now c.loop-b.b-index (omega arith), c.loop-b.invariant.1, digit, c.in_ok-digit.ensures.value, c.in_ok-checked_mul.ensures, c.in_err-value.ensures)) in
    record { value = p.0; exact = p.1 }

pub loop-b-preserved : goal.loop-b-preserved
loop-b-preserved c =
    let digit = ap digit_value c.from.ensures in (
      digits_more 10 c.args.bytes.now c.loop-b.b-index (omega arith) c.loop-b.invariant.0 (omega (arith, digit, c.in_ok-digit.ensures.value)),
      omega (arith, digits_value_more 10 c.args.bytes.now c.loop-b.b-index (omega arith), c.loop-b.invariant.1, digit, c.in_ok-digit.ensures.value, c.in_ok-checked_mul.ensures, c.in_ok-value.ensures),
      omega (arith, c.in_ok-value.ensures),
    )

pub returns : goal.returns
returns c =
    let all : take c.loop-b.b-index c.args.bytes.now ≡ c.args.bytes.now = take_all _ _ (omega arith) in
    let v : c.loop-b.value ≡ digits_value 10 c.args.bytes.now = c.loop-b.invariant.1 ∙ ap (digits_value 10) all in
    let digits = subst (AllDigits 10) all c.loop-b.invariant.0 in
    let some : 0 < length c.args.bytes.now = omega (arith, c.in_ok-first.ensures.item) in
    let lone = (λ (z : get_or c.args.bytes.now 0 0 ≡ 48). let first : c.in_ok-first.field-0.now ≡ 48 = omega (arith, c.in_ok-first.ensures.item, get_or_default_zero c.args.bytes.now 0 c.in_ok-first.field-0.now) in let one : length c.args.bytes.now ≡ 1 = ⊎_elim (λ h. omega (arith, h)) (λ h. absurd (h first)) c.else-branch-eq48.either in one) in
    let d = is-decimal c.args.bytes.now digits some lone (omega (arith, v)) in
    let p = value-told c.args.limit c.args.bytes.now c.loop-b.value c.then_some.result (omega arith) (d ∙ ap decimal (sym v)) (omega arith) c.then_some.ensures in
    record { value = p.0; exact = p.1 }
