use Rattle.std.proofs.Common.{◌≡◌, ◌+◌, [], ◌∷◌, ◌++◌, length, decimal, sym, ap, ◌∙◌, subst, arith}
use Rattle.std.proofs.lemmas.List.{length_push}
use Rattle.fixed.proofs.Pushes.{pushed}
use Rattle.text.specs.Texts.{Wrote}
use Rattle.text.specs.Spaced.{spaced_by}
use Rattle.sheet.specs.Replies.{positions}
use Rattle.sheet.proofs.Counts.{positions-low, up-yes, up-no, up-all}
use Rattle.sheet.proofs.Texts.{spaced-short}
use Rattle.sheet.proofs.positions.put_positions.Goals as goal
use Rattle.sheet.proofs.positions.put_positions.Goals.{then-has, else-has}

pub loop-i-preserved : goal.loop-i-preserved
loop-i-preserved c =
    let w = c.args.set in
    let i = c.loop-i.i in
    let places = c.loop-i.places in
    let inv = c.loop-i.invariant in
    elim c.if-has.branch [
      | then-has v ↦
          let more = pushed 32 places v.push.new.self (i + 1) v.push.result v.push.ensures (omega (arith, inv.1)) in
          rw v.places-is (more ∙ ap (λ l. l ++ ((i + 1) ∷ [])) inv.0 ∙ sym (up-yes w i (sym c.has.ensures ∙ v.if-has.true)), omega (arith, ap length more, length_push places (i + 1), inv.1))
      | else-has v ↦ rw v.places-is (inv.0 ∙ sym (up-no w i (sym c.has.ensures ∙ v.if-has.false)), omega (arith, inv.1))
    ]

pub returns : goal.returns
returns c =
    let w = c.args.set in
    let all : c.as_slice.result.now ≡ positions w = c.as_slice.ensures.value ∙ c.loop-i.invariant.0 ∙ up-all w c.loop-i.i (omega arith) in
    record {
      text = subst (Wrote _ _) (ap (spaced_by decimal) all) c.put_spaced.ensures.wrote;
      short = omega (arith, spaced-short (positions w) (positions-low w), ap length all, c.as_slice.ensures.few);
    }
