-- What is written one after the other is written, and what a buffer then holds.
use Rattle.std.proofs.Common.{◌≡◌, ℕ, zero, suc, ◌≤◌, List, [], ◌∷◌, ◌++◌, length, take, drop, sym, refl, ap, ◌∙◌, append_assoc, append-nil, arith, length-append, take-append-drop}
use Rattle.std.proofs.lemmas.List.{drop-drop, drop_all, take_all, take_at, length-take-le}
use Rattle.text.specs.declared.writer.Writer.{Writer}
use Rattle.text.specs.Texts.{Wrote, written, past, room, whole}

-- cutting a front short first loses nothing
pub take_again : (n : ℕ) (xs ys : List ℕ) → take n (take n xs ++ ys) ≡ take n (xs ++ ys)
take_again zero xs ys = refl
take_again (suc n) [] ys = refl
take_again (suc n) (x ∷ xs) ys = ap (λ l. x ∷ l) (take_again n xs ys)

pub wrote_none : (w : Writer) → Wrote w w []
wrote_none w =
    record {
      front = sym (append-nil (written w)) ∙ sym (take_all (room w) (written w ++ []) (omega (arith, w.within, ap length (append-nil (written w)), length-take-le w.at w.buffer.now w.within)));
      back = refl;
      same = refl;
      lent = refl;
    }

pub wrote-more : {a b c : Writer} (xs ys : List ℕ) → Wrote a b xs → Wrote b c ys → Wrote a c (xs ++ ys)
wrote-more {a = a} {b = b} {c = c} xs ys p q =
    record {
      front = q.front ∙ (λ i. take (p.same i) (p.front i ++ ys)) ∙ take_again (room a) (written a ++ xs) ys ∙ ap (take (room a)) (append_assoc (written a) xs ys);
      back = q.back ∙ ap (drop (length ys)) p.back ∙ drop-drop (length ys) (length xs) (past a) ∙ ap (λ n. drop n (past a)) (sym (length-append xs ys));
      same = q.same ∙ p.same;
      lent = q.lent ∙ p.lent;
    }

-- a full buffer takes no more
pub no_room : (w : Writer) (b : ℕ) → room w ≤ w.at → Wrote w w (b ∷ [])
no_room w b full =
    let all : length (written w) ≡ room w = omega (arith, length-take-le w.at w.buffer.now w.within, w.within) in
    let none = drop_all w.at w.buffer.now full in
    record {
      front = sym (take_at (written w) (b ∷ []) (room w) all);
      back = none ∙ sym (ap (drop 1) none);
      same = refl;
      lent = refl;
    }

-- from the front of the buffer
pub wrote-whole : {a b : Writer} (xs : List ℕ) → a.at ≡ 0 → Wrote a b xs → b.buffer.now ≡ whole a.buffer.now xs
wrote-whole {a = a} {b = b} xs z p =
    let none : written a ≡ [] = ap (λ n. take n a.buffer.now) z in
    let all : past a ≡ a.buffer.now = ap (λ n. drop n a.buffer.now) z in
    sym (take-append-drop b.at b.buffer.now) ∙ ap (λ l. l ++ past b) (p.front ∙ ap (λ l. take (room a) (l ++ xs)) none) ∙ ap (λ l. take (room a) xs ++ l) (p.back ∙ ap (drop (length xs)) all)
