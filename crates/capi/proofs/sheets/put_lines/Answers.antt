use Rattle.std.proofs.Common.{◌≡◌, None, Ok, sym, refl, ap, ◌∙◌, subst, arith, rules}
use Rattle.capi.proofs.Lined.{few-lines, far_none, far-more, far-ended, ended-by, refused-short}
use Rattle.text.specs.Texts.{Wrote}
use Rattle.capi.proofs.sheets.put_lines.Goals as goal
use Rattle.capi.proofs.sheets.put_lines.Goals.{in_default, in_default-2}

pub loop-len-init : goal.loop-len-init
loop-len-init g c = record {
  room = refl;
  low = omega (arith, few-lines c.args.run.now.lines);
  map = refl;
  far = λ p same going. far_none p c.args.run.now c.args.writer.now going;
}

pub loop-len-preserved : goal.loop-len-preserved
loop-len-preserved g c =
    let meaning = g.M.SiteMap.meaning in
    let run = c.loop-len.run in
    let inv = c.loop-len.invariant in
    let given = rw c.in-Ok-Some.field-0-is at c.in-Ok-Some.ensures.next in
    let spent = rw c.in-Ok-Some.field-0-is at c.in-Ok-Some.ensures.spent in
    record {
      room = omega (arith, c.next_line.auto.out, inv.room);
      low = omega (arith, given.short, spent, inv.room, inv.low);
      map = c.in-Ok-Some.ensures.map ∙ inv.map;
      far = λ p same going.
          far-more p (meaning run.store.map) run c.next_line.new.self c.args.writer.now c.loop-len.writer c.put_bytes.new.self c.loop-len.bytes c.in-Ok-Some.len
          c.loop-len.buffer c.next_line.new.out (same ∙ ap meaning (sym inv.map)) (inv.far p same going) given (subst (Wrote _ _) c.front.ensures c.put_bytes.ensures);
    }

pub returns : goal.returns
returns g c =
    let meaning = g.M.SiteMap.meaning in
    let run = c.loop-len.run in
    let inv = c.loop-len.invariant in
    let s = meaning run.store.map in
    let next = c.next_line.new.self in
    let before = c.loop-len.buffer in
    let after = c.next_line.new.out in
    λ p same going.
    elim c.match-next_line.branch [
      | in_default w ↦
          let none : w.in_default.field-0 ≡ None = search rules in
          far-ended p s run next c.args.writer.now c.loop-len.writer c.loop-len.bytes before after (same ∙ ap meaning (sym inv.map)) (inv.far p same going)
          (ended-by s run next c.next_line.result before after (w.in_default.is ∙ ap Ok none) c.next_line.ensures.next)
      | in_default-2 w ↦ absurd (omega (arith, refused-short s run next c.next_line.result before after w.in_default.is c.next_line.ensures.next, inv.room))
    ]
