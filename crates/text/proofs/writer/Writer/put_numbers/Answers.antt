use Rattle.std.proofs.Common.{sym, ap, subst}
use Rattle.text.specs.Spaced.{spaced}
use Rattle.text.specs.Texts.{Wrote}
use Rattle.text.proofs.TextLaws.{wrote_none, wrote-more}
use Rattle.text.proofs.writer.Writer.put_numbers.Goals as goal

pub returns-in-Some : goal.returns-in-Some
returns-in-Some c = subst (Wrote _ _) (sym (ap spaced c.in-Some.ensures.cases.0)) (wrote-more _ _ c.put_number.ensures c.put_further.ensures)
