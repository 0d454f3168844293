use Rattle.std.proofs.Common.{◌∷◌, length, sym, refl, ap, ◌∙◌, arith, false-eqb}
use Rattle.text.specs.Pieces.{lines_of}
use Rattle.text.proofs.LineLaws.{first-line, or-empty, a-line}
use Rattle.text.proofs.PieceLaws.{front-within}
use Rattle.text.proofs.lines.LinesIterator.next.Goals as goal

pub returns : goal.returns
returns c =
    let left = c.args.self.now.left.now in
    let more = c.split_first.result.1 in
    let after = or-empty more _ _ refl c.unwrap_or.ensures in
    let e = first-line left _ more (omega (arith, false-eqb _ 0 c.if-is_empty.ensures)) c.split_first.ensures.pieces c.split_first.ensures.shorter
    ∙ ap (λ l. c.split_first.result.0.now ∷ lines_of l) (sym after) in
    record {
      steps = (
        a-line left c.unwrap_or.result.now c.args.self.now.number c.split_first.result.0 e,
        omega (arith, front-within left c.split_first.result.0.now more c.split_first.ensures.shorter),
      );
      goes = record { on = λ _. (tt, tt, omega (arith, ap length e)); keeps = tt; rests = λ _. tt };
    }
