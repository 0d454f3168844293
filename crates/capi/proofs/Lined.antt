-- The lines of a run, written one after the other.
use Rattle.std.proofs.Common.{◌≡◌, ℕ, ◌+◌, ◌<◌, ◌≤◌, Bool, true, false, cond, eqb, List, [], ◌∷◌, ◌++◌, length, take, drop, None, Ok, Err, Option, Result, sym, refl, ap, ◌∙◌, subst, arith, length-append}
use Rattle.std.proofs.lemmas.List.{flat_map_more, take_all, take_at}
use Rattle.site.specs.Site.{Site}
use Rattle.text.specs.Pieces.{lines_of, onto}
use Rattle.text.specs.Rows.{left_of}
use Rattle.text.specs.Texts.{Wrote, whole}
use Rattle.text.specs.declared.lines.Lines.{Lines}
use Rattle.text.specs.declared.writer.Writer.{Writer}
use Rattle.text.proofs.TextLaws.{wrote_none, wrote-more}
use Rattle.store.specs.Ledger.{ledger}
use Rattle.sheet.specs.Going.{Part, Going, Given, Ended, NextOf, line_after}
use Rattle.sheet.specs.Runs.{lines_from}
use Rattle.sheet.specs.Said.{Said}
use Rattle.sheet.specs.declared.run.Run.{Run}
use Rattle.sheet.specs.declared.run.ShortBuffer.{ShortBuffer}
use Rattle.sheet.proofs.Goings.{lines-grow}
use Rattle.capi.specs.Sheets.{text_of, part_text, RunPut}

-- a reader has no more lines left than a sheet may have bytes
lines-within : (bs : List ℕ) → length (lines_of bs) ≤ length bs
lines-within [] = omega arith
lines-within (b ∷ bs) = by (eqb b 10) (lines_of bs) (lines-within bs) where
  by : (t : Bool) (ls : List (List ℕ)) → length ls ≤ length bs → length (cond t ([] ∷ ls) (onto b ls)) ≤ length (b ∷ bs)
  by true ls h = omega arith
  by false [] h = omega arith
  by false (l ∷ ls) h = omega arith

pub few-lines : (lines : Lines) → length (left_of lines) ≤ 65536
few-lines lines = omega (arith, lines-within lines.left.now, lines.counted, lines.short)

-- so far: these lines are answered, written and counted
pub record Far {M : Type 0} (p : Part) (run : Run M) (was is : Writer) (n : ℕ) : Type 0 where
  pub said : List Said
  pub going : Going p said run
  pub wrote : Wrote was is (part_text p said)
  pub count : n ≡ length (part_text p said)

pub far_none : {M : Type 0} (p : Part) (run : Run M) (w : Writer) → Going p [] run → Far p run w w 0
far_none p run w going = record { said = []; going = going; wrote = wrote_none w; count = refl }

text-more : (ls : List (List ℕ)) (l : List ℕ) → text_of (ls ++ (l ∷ [])) ≡ text_of ls ++ l
text-more ls l = sym (flat_map_more (λ x. x) [] ls l)

-- one line more
pub far-more : {M : Type 0} (p : Part) (s : Site) (run next : Run M) (was is then : Writer) (n count : ℕ) (before after : List ℕ) → p.site ≡ s → Far p run was is n
    → Given s run next count before after → Wrote is then (take count after) → Far p next was then (n + count)
far-more p s run next was is then n count before after same far given wrote =
    let cs = far.said in
    let step = given.line p cs same far.going in
    let c = step.0 in
    let line = line_after p cs c in
    let grown : part_text p (cs ++ (c ∷ [])) ≡ part_text p cs ++ line = ap text_of (lines-grow p cs c) ∙ text-more (lines_from p.site (ledger p.site p.before) cs) line in
    let front : take count after ≡ line = ap (take count) step.4 ∙ take_at line (drop count before) count (sym step.2) in
    record {
      said = cs ++ (c ∷ []);
      going = step.1;
      wrote = subst (λ (t : List ℕ). Wrote was then t) (sym grown) (wrote-more (part_text p cs) line far.wrote (subst (λ (t : List ℕ). Wrote is then t) front wrote));
      count = omega (arith, far.count, step.2, ap length grown, length-append (part_text p cs) line);
    }

-- no line is left
pub far-ended : {M : Type 0} (p : Part) (s : Site) (run next : Run M) (was is : Writer) (n : ℕ) (before after : List ℕ) → p.site ≡ s → Far p run was is n
    → Ended s run next before after → RunPut p next was is n
far-ended p s run next was is n before after same far ended =
    let end = ended.all p far.said same far.going in
    record { said = far.said; all = end.1; going = end.0; wrote = far.wrote; count = far.count }

pub ended-by : {M : Type 0} (s : Site) (run next : Run M) (r : Result (Option ℕ) ShortBuffer) (before after : List ℕ) → r ≡ Ok None → NextOf s run next r before after → Ended s run next before after
ended-by s run next r before after is n = subst (λ (x : Result (Option ℕ) ShortBuffer). NextOf s run next x before after) is n

-- a refusal is for a buffer that is too short
pub refused-short : {M : Type 0} {e : ShortBuffer} (s : Site) (run next : Run M) (r : Result (Option ℕ) ShortBuffer) (before after : List ℕ) → r ≡ Err e → NextOf s run next r before after → length before < 2048
refused-short s run next r before after is n = (subst (λ (x : Result (Option ℕ) ShortBuffer). NextOf s run next x before after) is n).0

-- a text that fits stands whole at the front of what it was written over
pub whole-front : (n : ℕ) (text was is : List ℕ) → length text ≤ length was → n ≡ length (take (length was) text) → is ≡ whole was text → (n ≡ length text) × (take n is ≡ text) × (n ≤ length is)
whole-front n text was is fits value after =
    let all : take (length was) text ≡ text = take_all (length was) text fits in
    let same : n ≡ length text = value ∙ ap length all in
    let e : is ≡ text ++ drop (length text) was = after ∙ ap (λ l. l ++ drop (length text) was) all in
    (same, ap (take n) e ∙ take_at text (drop (length text) was) n (sym same), omega (arith, ap length e, length-append text (drop (length text) was)))
