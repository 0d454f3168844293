use Rattle.std.proofs.Common.{◌+◌, ◌≤◌, [], ◌∷◌, ◌++◌, length, take, sym, refl, ◌∙◌, arith}
use Rattle.std.proofs.lemmas.List.{take_more_set, take_all, drop-set-lt, drop-drop, length-set, length_push, length-take-le}
use Rattle.text.proofs.TextLaws.{no_room}
use Rattle.text.proofs.writer.Writer.put.Goals as goal

pub returns-then-at-buffer : goal.returns-then-at-buffer
returns-then-at-buffer c =
    let buffer = c.args.self.now.buffer.now in
    let at = c.args.self.now.at in
    let b = c.args.b in
    let fits : length (take at buffer ++ b ∷ []) ≤ length buffer = omega (arith, length_push (take at buffer) b, length-take-le at buffer (omega arith)) in
    record {
      front = take_more_set buffer at b (omega arith) ∙ sym (take_all (length buffer) (take at buffer ++ b ∷ []) fits);
      back = drop-set-lt (at + 1) buffer at b (omega arith) ∙ sym (drop-drop 1 at buffer);
      same = length-set buffer at b;
      lent = refl;
    }

pub returns-else-at-buffer : goal.returns-else-at-buffer
returns-else-at-buffer c = let full = no_room c.args.self.now c.args.b (omega arith) in record { front = full.front; back = full.back; same = full.same; lent = full.lent }
