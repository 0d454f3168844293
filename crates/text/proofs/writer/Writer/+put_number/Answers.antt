use Rattle.std.proofs.Common.{sym, subst, arith}
use Rattle.std.proofs.lemmas.Fmt.{decimal_digit, decimal_step}
use Rattle.text.specs.Texts.{Wrote}
use Rattle.text.proofs.TextLaws.{wrote-more}
use Rattle.text.proofs.writer.Writer.+put_number.Goals as goal

pub returns-then-n-lt10 : goal.returns-then-n-lt10
returns-then-n-lt10 t c = subst (Wrote _ _) (sym (decimal_digit c.args.n (omega arith))) c.put.ensures

pub returns : goal.returns
returns t c = subst (Wrote _ _) (sym (decimal_step c.args.n (omega arith) (omega arith))) (wrote-more _ _ c.put_number.ensures c.put-2.ensures)
