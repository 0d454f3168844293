use Rattle.std.proofs.Common.{replicate, ◌∙◌, subst, arith}
use Rattle.text.specs.Texts.{Wrote}
use Rattle.capi.proofs.Lined.{whole-front}
use Rattle.capi.proofs.sheets.put_line.Goals as goal

pub returns : goal.returns
returns g c =
    let w = c.write-len.ensures in
    let whole = whole-front c.write-len.result (g.L.Put.text c.args.line.now) (replicate 2048 0) c.write-len.new.out in
    record {
      wrote = λ h. subst (Wrote _ _) (c.front.ensures ∙ (whole (omega (arith, w.short)) w.value w.after).1) c.put_bytes.ensures;
      count = λ h. (whole (omega (arith, w.short)) w.value w.after).0;
      short = omega (arith, w.within);
    }
