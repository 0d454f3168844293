use Rattle.std.proofs.Common.{length, decimal, sym, ap, ◌∙◌, subst, arith}
use Rattle.text.specs.Texts.{Wrote}
use Rattle.sheet.specs.Replies.{status}
use Rattle.sheet.proofs.Texts.{number-low, two_digits}
use Rattle.sheet.proofs.replies.put_status.Goals as goal

pub returns-in-Err : goal.returns-in-Err
returns-in-Err c =
    let e = ap status (sym c.in-Err.is) in
    record {
      text = subst (Wrote _ _) (ap decimal c.from.ensures ∙ e) c.put_number.ensures;
      short = omega (arith, ap length e, two_digits _ (number-low c.in-Err.refusal));
    }
