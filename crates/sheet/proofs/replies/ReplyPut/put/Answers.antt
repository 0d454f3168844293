use Rattle.std.proofs.Common.{map, decimal, arith}
use Rattle.text.proofs.TextLaws.{wrote-more}
use Rattle.store.specs.Answers.{shown}
use Rattle.sheet.specs.Replies.{status, rest_text}
use Rattle.sheet.proofs.Texts.{length-line, word-short}
use Rattle.sheet.proofs.replies.ReplyPut.put.Goals as goal

pub returns-clause-wrote : goal.returns-clause-wrote
returns-clause-wrote c =
    wrote-more _ _ c.put_status.ensures.text (wrote-more _ _ c.put.ensures (wrote-more _ _ c.put_number.ensures
    (wrote-more _ _ c.put-2.ensures (wrote-more _ _ c.put_rest.ensures.text c.put-3.ensures))))

pub returns-clause-short : goal.returns-clause-short
returns-clause-short c =
    let r = c.args.self.now in
    omega (
      arith,
      length-line (status r.answer) (decimal r.first) (rest_text r.answer (map shown r.rows.now)),
      word-short r.first (omega arith),
      c.put_status.ensures.short,
      c.put_rest.ensures.short,
    )
