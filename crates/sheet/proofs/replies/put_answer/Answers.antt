use Rattle.std.proofs.Common.{map, length, sym, ap, ◌∙◌, subst, arith}
use Rattle.text.specs.Texts.{Wrote}
use Rattle.text.proofs.TextLaws.{wrote_none}
use Rattle.store.specs.Answers.{shown}
use Rattle.sheet.specs.Replies.{answer_text}
use Rattle.sheet.proofs.Texts.{rows-said, rows-sum, no-text}
use Rattle.sheet.proofs.replies.put_answer.Goals as goal

pub returns-in-Position : goal.returns-in-Position
returns-in-Position c =
    let e = ap (λ a. answer_text a (map shown c.args.rows.now)) (sym c.in-Position.is) in
    record { text = subst (Wrote _ _) e c.put.ensures.wrote; short = omega (arith, ap length e, c.put.ensures.short) }

pub returns-in-Rows : goal.returns-in-Rows
returns-in-Rows c =
    let rows = c.args.rows.now in
    let n = c.in-Rows.n in
    let e = rows-said rows c.front.result.now n c.front.ensures ∙ ap (λ a. answer_text a (map shown rows)) (sym c.in-Rows.is) in
    record { text = subst (Wrote _ _) e c.put_spaced.ensures.wrote; short = omega (arith, ap length e, c.put_spaced.ensures.short, rows-sum rows c.front.result.now n c.front.ensures) }

pub returns-in-Done : goal.returns-in-Done
returns-in-Done c =
    let e = no-text c.args.answer (map shown c.args.rows.now) c.in-Done.is in
    record { text = subst (Wrote _ _) (sym e) (wrote_none c.args.writer.now); short = omega (arith, ap length e) }
