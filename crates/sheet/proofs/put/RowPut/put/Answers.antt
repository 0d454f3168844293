use Rattle.std.proofs.Common.{◌≡◌, ◌∷◌, ◌++◌, length, decimal, sym, ap, ◌∙◌, subst, arith, length-append}
use Rattle.text.specs.Texts.{Wrote}
use Rattle.text.specs.declared.writer.Writer.{Writer}
use Rattle.text.proofs.TextLaws.{wrote-more}
use Rattle.store.specs.Answers.{shown}
use Rattle.sheet.specs.Replies.{row_text}
use Rattle.sheet.proofs.Texts.{deleted-text, kept-text, word-short, node-short}
use Rattle.sheet.proofs.put.RowPut.put.Goals as goal
use Rattle.sheet.proofs.put.RowPut.put.Goals.{then-eq, else-eq}

pub returns : goal.returns
returns c =
    let row = c.args.self.now in
    let node : c.from.result ≡ row.node.0 = c.from.ensures in
    let last : (x : Writer) → c.if-eq.writer ≡ x → Wrote x c.put_number-2.new.self (decimal c.from.result) =
    λ x e. subst (λ (y : Writer). Wrote y c.put_number-2.new.self (decimal c.from.result)) e c.put_number-2.ensures in
    elim c.if-eq.branch [
      | then-eq w ↦
          let text : decimal row.number ++ (58 ∷ decimal c.from.result) ≡ row_text (shown row) =
          ap (λ v. decimal row.number ++ (58 ∷ decimal v)) node ∙ sym (deleted-text row (sym c.eq.ensures ∙ w.if-eq.true)) in
          record {
            wrote = subst (Wrote _ _) text (wrote-more _ _ w.put_number.ensures (wrote-more _ _ w.put.ensures (last _ w.writer-is)));
            short = omega (arith, ap length text, length-append (decimal row.number) (58 ∷ decimal c.from.result), word-short row.number (omega arith), node-short c.from.result (omega arith));
          }
      | else-eq w ↦
          let text : decimal c.from.result ≡ row_text (shown row) = ap decimal node ∙ sym (kept-text row (sym c.eq.ensures ∙ w.if-eq.false)) in
          record { wrote = subst (Wrote _ _) text (last _ w.writer-is); short = omega (arith, ap length text, node-short c.from.result (omega arith)) }
    ]
