use Rattle.std.proofs.Common.{◌≡◌, length, take, sym, refl, ap, ◌∙◌, arith}
use Rattle.text.specs.Rows.{left_of}
use Rattle.text.specs.Texts.{whole}
use Rattle.sheet.specs.FaultTexts.{fault_line, told_line}
use Rattle.sheet.proofs.Goings.{next-some, next-none, one_less}
use Rattle.sheet.proofs.Turns.{given-call, given-fault, ended}
use Rattle.sheet.proofs.run.Run.next_line.Goals as goal

pub returns-in_default : goal.returns-in_default
returns-in_default g c =
    let was = c.args.self.now in
    let e = next-none (left_of was.lines) was.lines.number (left_of c.next.new.self) c.next.new.self.number c.in_default.ensures.steps.0 in
    record { map = refl; spent = (e.0, e.1); next = ended (g.M.SiteMap.meaning was.store.map) was c.next.new.self c.args.out.now (omega arith) c.in_default.ensures.steps.0 }

pub returns-in-Ok : goal.returns-in-Ok
returns-in-Ok g c =
    let was = c.args.self.now in
    let lines = c.next.new.self in
    let line = c.in-Some.line in
    record {
      map = c.answer_line.ensures.map;
      spent = one_less (left_of was.lines) was.lines.number line (left_of lines) lines.number (next-some (left_of was.lines) was.lines.number line (left_of lines) lines.number c.in-Some.ensures.steps.0);
      next =
          given-call (g.M.SiteMap.meaning was.store.map) was line lines c.args.out.now c.answer_line.new.out c.answer_line.result (omega arith) c.answer_line.ensures.within
          (next-some (left_of was.lines) was.lines.number line (left_of lines) lines.number c.in-Some.ensures.steps.0) c.in-Some.ensures.steps.1
          c.answer_line.new.store c.in-Ok.call c.in-Ok.ensures c.answer_line.ensures.low c.answer_line.ensures.line;
    }

pub returns-in-Err : goal.returns-in-Err
returns-in-Err g c =
    let was = c.args.self.now in
    let lines = c.next.new.self in
    let line = c.in-Some.line in
    let out = c.args.out.now in
    let e : told_line c.from.result ≡ fault_line c.in-Err.fault = c.from.ensures in
    record {
      map = refl;
      spent = one_less (left_of was.lines) was.lines.number line (left_of lines) lines.number (next-some (left_of was.lines) was.lines.number line (left_of lines) lines.number c.in-Some.ensures.steps.0);
      next =
          given-fault (g.M.SiteMap.meaning was.store.map) was line lines out c.write.new.out c.write.result (omega arith) c.write.ensures.within
          (next-some (left_of was.lines) was.lines.number line (left_of lines) lines.number c.in-Some.ensures.steps.0) c.in-Some.ensures.steps.1
          c.in-Err.fault c.in-Err.ensures (c.write.ensures.value ∙ ap (λ t. length (take (length out) t)) e) (c.write.ensures.after ∙ ap (whole out) e)
          (omega (arith, c.write.ensures.short, sym (ap length e)));
    }
