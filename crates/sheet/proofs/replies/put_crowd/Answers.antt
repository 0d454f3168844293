use Rattle.std.proofs.Common.{length, sym, ap, subst, arith}
use Rattle.text.specs.Texts.{Wrote}
use Rattle.text.proofs.TextLaws.{wrote_none}
use Rattle.sheet.proofs.Texts.{no-crowd}
use Rattle.sheet.proofs.replies.put_crowd.Goals as goal

pub returns-in_default : goal.returns-in_default
returns-in_default c =
    let e = no-crowd c.args.refusal c.in_default.not-NoChoice in
    record { text = subst (Wrote _ _) (sym e) (wrote_none c.args.writer.now); short = omega (arith, ap length e) }
