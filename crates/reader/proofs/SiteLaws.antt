-- The earliest fault of the site part.
use Rattle.std.proofs.Common.{◌≡◌, ℕ, zero, suc, ◌+◌, ◌<◌, List, [], ◌∷◌, length, get_or, take, drop, Some, Ok, Err, Result, sym, refl, ap, ◌∙◌, subst, inl, inr, ⊎_elim, arith, MatchResult}
use Rattle.site.specs.Site.{Place}
use Rattle.text.specs.Faults.{at, Least}
use Rattle.text.specs.Pieces.{parted}
use Rattle.text.specs.Rows.{NextLine}
use Rattle.text.specs.declared.lines.Line.{Line}
use Rattle.text.specs.declared.fault.Fault.{Fault}
use Rattle.text.specs.declared.fault.FaultKind.TheVariants.{Count}
use Rattle.reader.specs.declared.form.Form.TheVariants.{Numbers}
use Rattle.reader.specs.declared.form.Want.TheVariants.{Number}
use Rattle.reader.specs.declared.sites.SiteValues.TheVariants.{Regular, Listed}
use Rattle.reader.specs.Wants.{Fit}
use Rattle.reader.specs.Rows.{RowFault, Clean, named}
use Rattle.reader.specs.Names.{regular_names, node_names, InOrder, OrEmpty}
use Rattle.reader.specs.Listings.{NodesFault, NodesRead, past_part, past_number}
use Rattle.reader.specs.Sites.{RegularFault, RegularText, regular_text, RegularRead, SitePartFault, SiteText, SiteRead}
use Rattle.reader.proofs.RowLaws.{Same, same-not-after, row_line, row-empty, least-same, clean-same}
use Rattle.reader.proofs.LineLaws.{line-is, RegularEnd}
use Rattle.reader.proofs.FieldLaws.{row_fits, row-text}
use Rattle.reader.proofs.NameLaws.{regular-apart, node-apart, one-order, order-some, order-names, order-fields}
use Rattle.reader.proofs.CodeLaws.{ReadAs}
use Rattle.reader.proofs.ListingLaws.{listed-whole}

module _ (n : ℕ) (is : List ℕ) (some : 0 < length is) where
  pub regular-row : (ls : List (List ℕ)) (f : Fault) → Least (RowFault Numbers is n (get_or ls 0 [])) f → Least (RegularFault is n ls) f
  regular-row ls f least = record {
    there = inl least.there;
    first = λ g. ⊎_elim (least.first g) (λ p. inl (omega (arith, row_line Numbers is n (get_or ls 0 []) f least.there, ap (λ x. x.place.line) p.1)));
  }

  abbrev Ended : List (List ℕ) → List (List ℕ) → ℕ → Type 0
  Ended ls after m = Clean (RegularFault is n ls) × (after ≡ past_part ls) × (m ≡ past_number n ls)

  pub regular-ended : (ls : List (List ℕ)) → Clean (RowFault Numbers is n (get_or ls 0 [])) → (k : ℕ) → (0 < length ls → k ≡ n + 1) → (r : Result Unit Fault) (after : List (List ℕ)) (m : ℕ) → RegularEnd (drop 1 ls) k r after m → MatchResult r (λ _. Ended ls after m) (Least (RegularFault is n ls))
  regular-ended [] clean k at-k r after m t = absurd (clean (at Count n 1) ((row-empty Numbers is n some _).1 refl))
  regular-ended ([] ∷ ls) clean k at-k r after m t = absurd (clean (at Count n 1) ((row-empty Numbers is n some _).1 refl))
  regular-ended ((b ∷ bs) ∷ []) clean k at-k (Ok u) after m t = ((λ g. ⊎_elim (clean g) (λ p. omega (arith, p.0))), t.0, t.1 ∙ at-k (omega arith))
  regular-ended ((b ∷ bs) ∷ []) clean k at-k (Err f) after m t = absurd t
  regular-ended ((b ∷ bs) ∷ y ∷ zs) clean k at-k (Ok u) after m t =
      subst (λ y. Ended ((b ∷ bs) ∷ y ∷ zs) after m) (sym t.0) ((λ g. ⊎_elim (clean g) (λ p. omega (arith, p.0))), t.1, t.2 ∙ ap (λ j. j + 1) (at-k (omega arith)))
  regular-ended ((b ∷ bs) ∷ y ∷ zs) clean k at-k (Err f) after m t =
      subst (Least (RegularFault is n ((b ∷ bs) ∷ y ∷ zs))) (sym (t.1 ∙ ap (λ j. at Count j 1) (at-k (omega arith))))
      (record { there = inr (t.0, refl); first = λ g. ⊎_elim (λ p. absurd (clean g p)) (λ p. same-not-after _ g (sym p.1)) })

regular-text : (n : ℕ) (l x is : List ℕ) (racks each : ℕ) → InOrder regular_names l is → Clean (RowFault Numbers is n x) → ReadAs is (parted 44 x) 0 4294967295 racks → ReadAs is (parted 44 x) 1 4294967295 each → RegularText is x racks each
regular-text n l x is racks each o clean a b =
    row-text Numbers (regular_text racks each) is (parted 44 x) o.once (row_fits Numbers is n x clean) (λ j g e. said j g (order-names regular_names l is o j e)) where
      said : (j : ℕ) (g : List ℕ) → j < 2 → named is j (parted 44 x) ≡ Some g → Fit (Number 4294967295) g → g ≡ regular_text racks each j
      said zero g h e fit = a g e fit
      said (suc zero) g h e fit = b g e fit
      said (suc (suc j)) g h e fit = absurd (omega arith)

-- a regular site's lines as they are read
module _ (n : ℕ) (ls : List (List ℕ)) (names is : List ℕ) (o : InOrder regular_names names is) (line : Line) (after : List (List ℕ)) (m : ℕ) (values : OrEmpty ls n line after m) where
  filled : 0 < length is
  filled = omega (arith, o.all)

  pub regular-row-read : (f : Fault) → Least (RowFault Numbers is line.number (take 65536 line.bytes.now)) f → Least (RegularFault is n ls) f
  regular-row-read f least = regular-row n is filled ls f (subst (λ P. Least P f) (λ x. RowFault Numbers is (values.number x) (values.bytes x)) least)

  ended : Clean (RowFault Numbers is line.number (take 65536 line.bytes.now)) → (r : Result Unit Fault) (past : List (List ℕ)) (k : ℕ) → RegularEnd after m r past k → MatchResult r (λ _. Ended n is filled ls past k) (Least (RegularFault is n ls))
  ended clean r past k t =
      regular-ended n is filled ls (subst Clean (λ x. RowFault Numbers is (values.number x) (values.bytes x)) clean) m values.next r past k (subst (λ l. RegularEnd l m r past k) values.after_it t)

  pub regular-end-read : Clean (RowFault Numbers is line.number (take 65536 line.bytes.now)) → (f : Fault) (past : List (List ℕ)) (k : ℕ) → RegularEnd after m (Err f) past k → Least (RegularFault is n ls) f
  regular-end-read clean f past k t = ended clean (Err f) past k t

  pub regular-read : Clean (RowFault Numbers is line.number (take 65536 line.bytes.now)) → (u : Unit) (past : List (List ℕ)) (k : ℕ) → RegularEnd after m (Ok u) past k → (racks each : ℕ) → ReadAs is (parted 44 (take 65536 line.bytes.now)) 0 4294967295 racks → ReadAs is (parted 44 (take 65536 line.bytes.now)) 1 4294967295 each → RegularRead is n ls racks each past k
  regular-read clean u past k t racks each a b =
      let e = ended clean (Ok u) past k t in
      record {
        clean = e.0;
        text = subst (λ bs. RegularText is bs racks each) values.bytes (regular-text line.number names (take 65536 line.bytes.now) is racks each o clean a b);
        after_it = e.1;
        next = e.2;
      }

-- the two kinds of names lines differ
pub two-or-three : (l is js : List ℕ) → InOrder regular_names l is → InOrder node_names l js → ⊥
two-or-three l is js o p = omega (arith, order-fields regular_names l is o, order-fields node_names l js p)

module _ (n : ℕ) (l : List ℕ) (ls : List (List ℕ)) where
  pub regular-same : (is : List ℕ) → InOrder regular_names l is → Same (RegularFault is (n + 1) ls) (SitePartFault n (l ∷ ls))
  regular-same is o f = (
    (λ h. inr (inl (is, o, h))),
    ⊎_elim (λ p. absurd (p.0 is o)) (⊎_elim (λ p. subst (λ js. RegularFault js (n + 1) ls f) (one-order regular_names l p.0 is regular-apart p.1 o) p.2) (λ p. absurd (two-or-three l is p.0 o p.1))),
  )

  pub listed_same : (is : List ℕ) → InOrder node_names l is → Same (NodesFault is (n + 1) 0 ls) (SitePartFault n (l ∷ ls))
  listed_same is o f = (
    (λ h. inr (inr (is, o, h))),
    ⊎_elim (λ p. absurd (p.1 is o)) (⊎_elim (λ p. absurd (two-or-three l p.0 is p.1 o)) (λ p. subst (λ js. NodesFault js (n + 1) 0 ls f) (one-order node_names l p.0 is node-apart p.1 o) p.2)),
  )

past-names : (n : ℕ) (l : List ℕ) (ls : List (List ℕ)) → 0 < length l → (past_part ls ≡ past_part (l ∷ ls)) × (past_number (n + 1) ls ≡ past_number n (l ∷ ls))
past-names n [] ls h = absurd (omega arith)
past-names n (b ∷ bs) ls h = (refl, refl)

-- the site part as it is read
module _ (ls : List (List ℕ)) (n : ℕ) (names : Line) (mid : List (List ℕ)) (m : ℕ) (t : NextLine ls n (Some names) mid m) where
  lines_are : ls ≡ names.bytes.now ∷ mid
  lines_are = (line-is ls n names mid m t).0

  next-at : m ≡ n + 1
  next-at = (line-is ls n names mid m t).2

  regular-faults : (is : List ℕ) → InOrder regular_names names.bytes.now is → Same (RegularFault is m mid) (SitePartFault n ls)
  regular-faults is o = subst (λ l. Same (RegularFault is m mid) (SitePartFault n l)) (sym lines_are) (subst (λ k. Same (RegularFault is k mid) (SitePartFault n (names.bytes.now ∷ mid))) (sym next-at) (regular-same n names.bytes.now mid is o))

  listed-faults : (is : List ℕ) → InOrder node_names names.bytes.now is → Same (NodesFault is m 0 mid) (SitePartFault n ls)
  listed-faults is o = subst (λ l. Same (NodesFault is m 0 mid) (SitePartFault n l)) (sym lines_are) (subst (λ k. Same (NodesFault is k 0 mid) (SitePartFault n (names.bytes.now ∷ mid))) (sym next-at) (listed_same n names.bytes.now mid is o))

  past_is : 0 < length names.bytes.now → (past_part mid ≡ past_part ls) × (past_number m mid ≡ past_number n ls)
  past_is h =
      let e = past-names n names.bytes.now mid h in
      (e.0 ∙ ap past_part (sym lines_are), ap (λ k. past_number k mid) next-at ∙ e.1 ∙ ap (past_number n) (sym lines_are))

  pub site-regular-wrong : (is : List ℕ) → InOrder regular_names names.bytes.now is → (f : Fault) → Least (RegularFault is m mid) f → Least (SitePartFault n ls) f
  site-regular-wrong is o f least = least-same (RegularFault is m mid) (SitePartFault n ls) f (regular-faults is o) least

  pub site-regular : (is : List ℕ) → InOrder regular_names names.bytes.now is → (racks each : ℕ) (after : List (List ℕ)) (k : ℕ) (table : List Place) → RegularRead is m mid racks each after k → SiteRead n ls (Regular racks each) table table after k
  site-regular is o racks each after k table r =
      let p = past_is (order-some regular_names names.bytes.now is (omega arith) o) in
      record {
        clean = clean-same (RegularFault is m mid) (SitePartFault n ls) (regular-faults is o) r.clean;
        text = subst (λ l. SiteText l (Regular racks each) table) (sym lines_are) (is, o, r.text);
        kept = refl;
        after_it = r.after_it ∙ p.0;
        next = r.next ∙ p.1;
      }

  pub site-listed-wrong : (is : List ℕ) → InOrder node_names names.bytes.now is → (f : Fault) → Least (NodesFault is m 0 mid) f → Least (SitePartFault n ls) f
  site-listed-wrong is o f least = least-same (NodesFault is m 0 mid) (SitePartFault n ls) f (listed-faults is o) least

  pub site-listed : (is : List ℕ) → InOrder node_names names.bytes.now is → (nodes : ℕ) (after : List (List ℕ)) (k : ℕ) (was table : List Place) → NodesRead is m mid nodes was table after k → SiteRead n ls (Listed nodes) was table after k
  site-listed is o nodes after k was table r =
      let p = past_is (order-some node_names names.bytes.now is (omega arith) o) in
      record {
        clean = clean-same (NodesFault is m 0 mid) (SitePartFault n ls) (listed-faults is o) r.clean;
        text = subst (λ l. SiteText l (Listed nodes) table) (sym lines_are) (is, o, r.text);
        kept = (r.few, r.back, listed-whole nodes table r.few r.racked);
        after_it = r.after_it ∙ p.0;
        next = r.next ∙ p.1;
      }
