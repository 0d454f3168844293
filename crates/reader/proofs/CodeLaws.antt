-- The earliest fault of the code part, line after line.
use Rattle.std.proofs.Common.{◌≡◌, ℕ, zero, suc, ◌+◌, ◌<◌, ◌≤◌, List, [], ◌∷◌, map, length, get_or, take, drop, Some, Ok, Err, decimal, Result, sym, refl, ap, ◌∙◌, subst, inl, inr, ⊎_elim, arith, MatchResult}
use Rattle.text.specs.Faults.{at, number_of, NotAfter, Least}
use Rattle.text.specs.Pieces.{parted}
use Rattle.text.specs.Rows.{NextLine}
use Rattle.text.specs.declared.lines.Line.{Line}
use Rattle.text.specs.declared.fault.Fault.{Fault}
use Rattle.text.specs.declared.fault.FaultKind.TheVariants.{Names, Count, Sheet}
use Rattle.reader.specs.declared.code.CodeValues.{CodeValues}
use Rattle.reader.specs.declared.form.Form.TheVariants.{Numbers}
use Rattle.reader.specs.declared.form.Want.TheVariants.{Number}
use Rattle.reader.specs.Wants.{Fit}
use Rattle.reader.specs.Rows.{RowFault, Clean, named}
use Rattle.reader.specs.Names.{code_names, InOrder, NoOrder, OrEmpty}
use Rattle.reader.specs.Codes.{CodeFault, CodeRead, code_text}
use Rattle.reader.proofs.RowLaws.{same-not-after, row_line, row-empty}
use Rattle.reader.proofs.LineLaws.{line-is, CodeEnd}
use Rattle.reader.proofs.FieldLaws.{row_fits, row-text}
use Rattle.reader.proofs.NameLaws.{code_apart, one-order, order-names}

-- the names line is wrong
code-unnamed : (n : ℕ) (l : List ℕ) (ls : List (List ℕ)) → NoOrder code_names l → Least (CodeFault n (l ∷ ls)) (at Names n 1)
code-unnamed n l ls none = record {
  there = inr (inl (omega arith, none, refl));
  first = λ g. ⊎_elim (λ p. inl (omega (arith, ap (λ x. x.place.line) p.1)))
      (⊎_elim (λ p. same-not-after (at Names n 1) g (sym p.2))
      (⊎_elim (λ p. absurd (none p.0 p.1)) (λ p. inl (omega (arith, ap (λ x. x.place.line) p.1)))));
}

pub code-names-read : (n : ℕ) (ls : List (List ℕ)) (names : Line) (mid : List (List ℕ)) (m : ℕ) → NextLine ls n (Some names) mid m → NoOrder code_names names.bytes.now → (f : Fault) → f ≡ at Names names.number 1 → Least (CodeFault n ls) f
code-names-read n ls names mid m t none f e =
    let one = line-is ls n names mid m t in
    subst (Least (CodeFault n ls)) (sym (e ∙ ap (λ k. at Names k 1) one.1)) (subst (λ l. Least (CodeFault n l) (at Names n 1)) (sym one.0) (code-unnamed n names.bytes.now mid none))

module _ (n : ℕ) (l is : List ℕ) (o : InOrder code_names l is) where
  filled : 0 < length is
  filled = omega (arith, o.all)

  other_row : (ls : List (List ℕ)) (f : Fault) → (js : List ℕ) → InOrder code_names l js → RowFault Numbers js (n + 1) (get_or ls 0 []) f → RowFault Numbers is (n + 1) (get_or ls 0 []) f
  other_row ls f js p h = subst (λ ks. RowFault Numbers ks (n + 1) (get_or ls 0 []) f) (one-order code_names l js is code_apart p o) h

  missing-after : (ls : List (List ℕ)) (f g : Fault) → RowFault Numbers is (n + 1) (get_or ls 0 []) f → length (l ∷ ls) < 3 → g ≡ at Sheet (n + length (l ∷ ls)) 1 → NotAfter f g
  missing-after [] f g h s e =
      let is-count = (row-empty Numbers is (n + 1) filled f).0 h in
      inr (
        ap (λ x. x.place.line) is-count ∙ sym (ap (λ x. x.place.line) e),
        inr (ap (λ x. x.place.column) is-count ∙ sym (ap (λ x. x.place.column) e), omega (arith, ap (λ x. number_of x.kind) is-count, ap (λ x. number_of x.kind) e)),
      )
  missing-after (x ∷ ls) f g h s e = inl (omega (arith, row_line Numbers is (n + 1) x f h, ap (λ x. x.place.line) e))

  pub code_row : (ls : List (List ℕ)) (f : Fault) → Least (RowFault Numbers is (n + 1) (get_or ls 0 [])) f → Least (CodeFault n (l ∷ ls)) f
  code_row ls f least =
      let at-line = row_line Numbers is (n + 1) (get_or ls 0 []) f least.there in
      record {
        there = inr (inr (inl (is, o, least.there)));
        first = λ g. ⊎_elim (λ p. missing-after ls f g least.there p.0 p.1)
            (⊎_elim (λ p. absurd (p.1 is o))
            (⊎_elim (λ p. least.first g (other_row ls g p.0 p.1 p.2)) (λ p. inl (omega (arith, at-line, ap (λ x. x.place.line) p.1)))));
      }

  -- the value line is right: what can still be wrong is its end
  abbrev Ended : List (List ℕ) → List (List ℕ) → ℕ → Type 0
  Ended ls after m = Clean (CodeFault n (l ∷ ls)) × (3 ≤ length (l ∷ ls)) × (after ≡ drop 3 (l ∷ ls)) × (m ≡ n + 3)

  lone : (x : List ℕ) → Clean (RowFault Numbers is (n + 1) x) → Least (CodeFault n (l ∷ x ∷ [])) (at Sheet (n + 2) 1)
  lone x clean = record {
    there = inl (omega arith, refl);
    first = λ g. ⊎_elim (λ p. same-not-after _ g (sym p.1))
        (⊎_elim (λ p. absurd (p.1 is o)) (⊎_elim (λ p. absurd (clean g (other_row (x ∷ []) g p.0 p.1 p.2))) (λ p. absurd (omega (arith, p.0)))));
  }

  more : (x y : List ℕ) (zs : List (List ℕ)) → Clean (RowFault Numbers is (n + 1) x) → 0 < length y → Least (CodeFault n (l ∷ x ∷ y ∷ zs)) (at Count (n + 2) 1)
  more x y zs clean h = record {
    there = inr (inr (inr (h, refl)));
    first = λ g. ⊎_elim (λ p. absurd (omega (arith, p.0)))
        (⊎_elim (λ p. absurd (p.1 is o)) (⊎_elim (λ p. absurd (clean g (other_row (x ∷ y ∷ zs) g p.0 p.1 p.2))) (λ p. same-not-after _ g (sym p.1))));
  }

  whole : (x : List ℕ) (zs : List (List ℕ)) → Clean (RowFault Numbers is (n + 1) x) → Clean (CodeFault n (l ∷ x ∷ [] ∷ zs))
  whole x zs clean g =
      ⊎_elim (λ p. omega (arith, p.0)) (⊎_elim (λ p. p.1 is o) (⊎_elim (λ p. clean g (other_row (x ∷ [] ∷ zs) g p.0 p.1 p.2)) (λ p. omega (arith, p.0))))

  pub code-ended : (ls : List (List ℕ)) → Clean (RowFault Numbers is (n + 1) (get_or ls 0 [])) → (k : ℕ) → (0 < length ls → k ≡ n + 2) → (r : Result Unit Fault) (after : List (List ℕ)) (m : ℕ) → CodeEnd (drop 1 ls) k r after m → MatchResult r (λ _. Ended ls after m) (Least (CodeFault n (l ∷ ls)))
  code-ended [] clean k at-k r after m t = absurd (clean (at Count (n + 1) 1) ((row-empty Numbers is (n + 1) filled _).1 refl))
  code-ended (x ∷ []) clean k at-k (Ok u) after m t = absurd t
  code-ended (x ∷ []) clean k at-k (Err f) after m t = subst (Least (CodeFault n (l ∷ x ∷ []))) (sym (t ∙ ap (λ j. at Sheet j 1) (at-k (omega arith)))) (lone x clean)
  code-ended (x ∷ y ∷ zs) clean k at-k (Ok u) after m t = (
    subst (λ y. Clean (CodeFault n (l ∷ x ∷ y ∷ zs))) (sym t.0) (whole x zs clean),
    omega arith,
    t.1,
    omega (arith, t.2, at-k (omega arith)),
  )
  code-ended (x ∷ y ∷ zs) clean k at-k (Err f) after m t = subst (Least (CodeFault n (l ∷ x ∷ y ∷ zs))) (sym (t.1 ∙ ap (λ j. at Count j 1) (at-k (omega arith)))) (more x y zs clean t.0)

-- a value is read under its name
abbrev pub ReadAs : List ℕ → List (List ℕ) → ℕ → ℕ → ℕ → Type 0
ReadAs is fs name limit v = (f : List ℕ) → named is name fs ≡ Some f → Fit (Number limit) f → f ≡ decimal v

pub code-text : (n : ℕ) (l x is : List ℕ) (v : CodeValues) → InOrder code_names l is → Clean (RowFault Numbers is n x) → ReadAs is (parted 44 x) 0 4294967295 v.n → ReadAs is (parted 44 x) 1 4294967295 v.k → ReadAs is (parted 44 x) 2 4294967295 v.c → ReadAs is (parted 44 x) 3 4294967295 v.targets → parted 44 x ≡ map (code_text v) is
code-text n l x is v o clean a b c d =
    row-text Numbers (code_text v) is (parted 44 x) o.once (row_fits Numbers is n x clean) (λ j g e. said j g (order-names code_names l is o j e)) where
      said : (j : ℕ) (g : List ℕ) → j < 4 → named is j (parted 44 x) ≡ Some g → Fit (Number 4294967295) g → g ≡ code_text v j
      said zero g h e fit = a g e fit
      said (suc zero) g h e fit = b g e fit
      said (suc (suc zero)) g h e fit = c g e fit
      said (suc (suc (suc zero))) g h e fit = d g e fit
      said (suc (suc (suc (suc j)))) g h e fit = absurd (omega arith)

-- the lines as they are read, one after the other
module _ (n : ℕ) (ls : List (List ℕ)) (names : Line) (mid : List (List ℕ)) (m₁ : ℕ) (is : List ℕ) (line : Line) (after : List (List ℕ)) (m₂ : ℕ) (head : NextLine ls n (Some names) mid m₁) (o : InOrder code_names names.bytes.now is) (values : OrEmpty mid m₁ line after m₂) where
  first-is : ls ≡ names.bytes.now ∷ mid
  first-is = (line-is ls n names mid m₁ head).0

  second_at : line.number ≡ n + 1
  second_at = values.number ∙ (line-is ls n names mid m₁ head).2

  pub code-row-read : (f : Fault) → Least (RowFault Numbers is line.number (take 65536 line.bytes.now)) f → Least (CodeFault n ls) f
  code-row-read f least =
      subst (λ l. Least (CodeFault n l) f) (sym first-is)
      (code_row n names.bytes.now is o mid f (subst (λ P. Least P f) (λ x. RowFault Numbers is (second_at x) (values.bytes x)) least))

  row-clean : Clean (RowFault Numbers is line.number (take 65536 line.bytes.now)) → Clean (RowFault Numbers is (n + 1) (get_or mid 0 []))
  row-clean clean = subst Clean (λ x. RowFault Numbers is (second_at x) (values.bytes x)) clean

  third_at : 0 < length mid → m₂ ≡ n + 2
  third_at h = omega (arith, values.next h, (line-is ls n names mid m₁ head).2)

  ended : Clean (RowFault Numbers is line.number (take 65536 line.bytes.now)) → (r : Result Unit Fault) (past : List (List ℕ)) (m₃ : ℕ) → CodeEnd after m₂ r past m₃ → MatchResult r (λ _. Ended n names.bytes.now is o mid past m₃) (Least (CodeFault n (names.bytes.now ∷ mid)))
  ended clean r past m₃ t =
      code-ended n names.bytes.now is o mid (row-clean clean) m₂ third_at r past m₃ (subst (λ l. CodeEnd l m₂ r past m₃) values.after_it t)

  pub code-end-read : Clean (RowFault Numbers is line.number (take 65536 line.bytes.now)) → (f : Fault) (past : List (List ℕ)) (m₃ : ℕ) → CodeEnd after m₂ (Err f) past m₃ → Least (CodeFault n ls) f
  code-end-read clean f past m₃ t = subst (λ l. Least (CodeFault n l) f) (sym first-is) (ended clean (Err f) past m₃ t)

  pub code_read : Clean (RowFault Numbers is line.number (take 65536 line.bytes.now)) → (u : Unit) (past : List (List ℕ)) (m₃ : ℕ) → CodeEnd after m₂ (Ok u) past m₃ → (v : CodeValues) → ReadAs is (parted 44 (take 65536 line.bytes.now)) 0 4294967295 v.n → ReadAs is (parted 44 (take 65536 line.bytes.now)) 1 4294967295 v.k → ReadAs is (parted 44 (take 65536 line.bytes.now)) 2 4294967295 v.c → ReadAs is (parted 44 (take 65536 line.bytes.now)) 3 4294967295 v.targets → CodeRead n ls v past m₃
  code_read clean u past m₃ t v a b c d =
      let e = ended clean (Ok u) past m₃ t in
      let text = code-text line.number names.bytes.now (take 65536 line.bytes.now) is v o clean a b c d in
      subst (λ l. CodeRead n l v past m₃) (sym first-is) (record {
        clean = e.0;
        text = (is, o, subst (λ bs. parted 44 bs ≡ map (code_text v) is) values.bytes text);
        long = e.1;
        after_it = e.2;
        next = e.3;
      })
