-- The next line, and lines that are missing.
use Rattle.std.proofs.Common.{◌≡◌, ℕ, ◌+◌, ◌<◌, List, [], ◌∷◌, length, take, Some, None, Ok, Err, Option, Result, unwrap_or, sym, refl, ap, ◌∙◌, arith}
use Rattle.std.proofs.lemmas.List.{take_all, length-take}
use Rattle.std.specs.Option.{ok_or}
use Rattle.text.specs.Faults.{at}
use Rattle.text.specs.Rows.{NextLine, Short}
use Rattle.text.specs.declared.lines.Line.{Line}
use Rattle.reader.specs.Names.{OrEmpty}
use Rattle.text.specs.declared.fault.Fault.{Fault}
use Rattle.text.specs.declared.fault.FaultKind.TheVariants.{Count, Sheet}

pub line-is : (ls : List (List ℕ)) (n : ℕ) (line : Line) (after : List (List ℕ)) (m : ℕ) → NextLine ls n (Some line) after m → (ls ≡ line.bytes.now ∷ after) × (line.number ≡ n) × (m ≡ n + 1)
line-is [] n line after m t = absurd t
line-is (l ∷ ls) n line after m t = ((λ x. sym t.0 x ∷ sym t.2 x), t.1, t.3)

pub line-none : (ls : List (List ℕ)) (n : ℕ) (after : List (List ℕ)) (m : ℕ) → NextLine ls n None after m → (ls ≡ []) × (after ≡ []) × (m ≡ n)
line-none [] n after m t = (refl, t.0, t.1)
line-none (l ∷ ls) n after m t = absurd t

pub or-empty : (ls : List (List ℕ)) (n : ℕ) (r : Option Line) (line none : Line) (after : List (List ℕ)) (m : ℕ) → NextLine ls n r after m → Short r → none.bytes.now ≡ [] → none.number ≡ n → line ≡ unwrap_or r none → OrEmpty ls n line after m
or-empty [] n None line none after m t s z e is = record {
  bytes = ap (λ l. take 65536 l.bytes.now) is ∙ ap (take 65536) z;
  number = ap (λ l. l.number) is ∙ e;
  after_it = t.0;
  next = λ h. absurd (omega arith);
  rests = λ _. t.1;
}
or-empty [] n (Some l) line none after m t s z e is = absurd t
or-empty (x ∷ ls) n None line none after m t s z e is = absurd t
or-empty (x ∷ ls) n (Some l) line none after m t s z e is = record {
  bytes = ap (λ k. take 65536 k.bytes.now) is ∙ take_all 65536 l.bytes.now s ∙ t.0;
  number = ap (λ k. k.number) is ∙ t.1;
  after_it = t.2;
  next = λ _. t.3;
  rests = λ h. absurd (omega arith);
}

pub no_bytes : (bs : List ℕ) → length bs ≡ 0 → bs ≡ []
no_bytes [] h = refl
no_bytes (b ∷ bs) h = absurd (omega arith)

-- the fault that `ok_or` tells
pub err-same : {A : Type 0} (r : Result A Fault) (e f : Fault) → r ≡ Err e → r ≡ Err f → e ≡ f
err-same r e f p q = cc

pub or-err : {A : Type 0} (o : Option A) (r : Result A Fault) (e f : Fault) → r ≡ ok_or o f → o ≡ None → r ≡ Err e → e ≡ f
or-err o r e f v z w = err-same r e f w (v ∙ ap (λ k. ok_or k f) z)

-- the line that is to end the code part
abbrev pub CodeEnd : List (List ℕ) → ℕ → Result Unit Fault → List (List ℕ) → ℕ → Type 0
CodeEnd [] n (Ok u) after m = ⊥
CodeEnd [] n (Err f) after m = f ≡ at Sheet n 1
CodeEnd (l ∷ ls) n (Ok u) after m = (l ≡ []) × (after ≡ ls) × (m ≡ n + 1)
CodeEnd (l ∷ ls) n (Err f) after m = (0 < length l) × (f ≡ at Count n 1)

pub code-ends : (ls : List (List ℕ)) (n : ℕ) (line : Line) (after : List (List ℕ)) (m : ℕ) → NextLine ls n (Some line) after m → line.bytes.now ≡ [] → CodeEnd ls n (Ok tt) after m
code-ends [] n line after m t e = absurd t
code-ends (l ∷ ls) n line after m t e = (sym t.0 ∙ e, t.2, t.3)

pub code-breaks : (ls : List (List ℕ)) (n : ℕ) (after : List (List ℕ)) (m : ℕ) (f : Fault) → NextLine ls n None after m → f ≡ at Sheet n 1 → CodeEnd ls n (Err f) after m
code-breaks [] n after m f t e = e
code-breaks (l ∷ ls) n after m f t e = absurd t

pub code-goes : (ls : List (List ℕ)) (n : ℕ) (line : Line) (after : List (List ℕ)) (m : ℕ) (f : Fault) → NextLine ls n (Some line) after m → 0 < length line.bytes.now → f ≡ at Count line.number 1 → CodeEnd ls n (Err f) after m
code-goes [] n line after m f t h e = absurd t
code-goes (l ∷ ls) n line after m f t h e = (omega (arith, h, ap length t.0), e ∙ ap (λ k. at Count k 1) t.1)

-- and that of a regular site's part, which may be missing
abbrev pub RegularEnd : List (List ℕ) → ℕ → Result Unit Fault → List (List ℕ) → ℕ → Type 0
RegularEnd [] n (Ok u) after m = (after ≡ []) × (m ≡ n)
RegularEnd [] n (Err f) after m = ⊥
RegularEnd (l ∷ ls) n (Ok u) after m = (l ≡ []) × (after ≡ ls) × (m ≡ n + 1)
RegularEnd (l ∷ ls) n (Err f) after m = (0 < length l) × (f ≡ at Count n 1)

pub regular-ends : (ls : List (List ℕ)) (n : ℕ) (line : Line) (after : List (List ℕ)) (m : ℕ) → OrEmpty ls n line after m → line.bytes.now ≡ [] → RegularEnd ls n (Ok tt) after m
regular-ends [] n line after m o e = (o.after_it, o.rests refl)
regular-ends (l ∷ ls) n line after m o e = (sym o.bytes ∙ ap (take 65536) e, o.after_it, o.next (omega arith))

pub regular-goes : (ls : List (List ℕ)) (n : ℕ) (line : Line) (after : List (List ℕ)) (m : ℕ) (f : Fault) → OrEmpty ls n line after m → 0 < length line.bytes.now → f ≡ at Count line.number 1 → RegularEnd ls n (Err f) after m
regular-goes [] n line after m f o h e = absurd (omega (arith, h, ap length o.bytes, length-take 65536 line.bytes.now))
regular-goes (l ∷ ls) n line after m f o h e = (omega (arith, h, ap length o.bytes, length-take 65536 line.bytes.now), e ∙ ap (λ k. at Count k 1) o.number)
