-- A sheet that is too long is answered by its first bytes.
use Rattle.std.proofs.Common.{◌≡◌, ℕ, ◌<◌, List, [], ◌∷◌, length, take, sym, refl, ap, ◌∙◌, subst, inl, inr, arith, length-take}
use native.Mathlib.Nat.{le-min}
use Rattle.std.proofs.lemmas.List.{take_all}
use Rattle.std.proofs.lemmas.Bool.{cases_lt}
use Rattle.text.specs.Faults.{at, NotAfter, Least}
use Rattle.text.specs.declared.fault.Fault.{Fault}
use Rattle.text.specs.declared.fault.FaultKind.TheVariants.{Sheet}
use Rattle.reader.specs.Heads.{HeadFault}
use Rattle.sheet.specs.FaultTexts.{fault_line}
use Rattle.sheet.specs.Sheets.{LinesFor, Enough}

-- the one fault of a sheet that is too long
only : (sheet : List ℕ) → 65536 < length sheet → (f : Fault) → HeadFault sheet f → f ≡ at Sheet 1 1
only sheet long f (inl h) = h.1
only sheet long f (inr h) = absurd (omega (arith, h.0))

least-long : (sheet : List ℕ) → 65536 < length sheet → Least (HeadFault sheet) (at Sheet 1 1)
least-long sheet long = record {
  there = inl (long, refl);
  first = λ g h. subst (NotAfter (at Sheet 1 1)) (sym (only sheet long g h)) (inr (refl, inr (refl, omega arith)));
}

-- and so its one line
long-line : (sheet : List ℕ) (lines : List (List ℕ)) → 65536 < length sheet → LinesFor sheet lines → lines ≡ fault_line (at Sheet 1 1) ∷ []
long-line sheet lines long (inl h) = h.2 ∙ ap (λ (f : Fault). fault_line f ∷ []) (only sheet long h.0 h.1.there)
long-line sheet lines long (inr (inl h)) = absurd (h.2 (at Sheet 1 1) (inl (long, refl)))
long-line sheet lines long (inr (inr h)) = absurd (h.2.clean (at Sheet 1 1) (inl (long, refl)))

pub enough : (n : ℕ) → 65536 < n → Enough n
enough n big sheet lines h = elim (cases_lt n (length sheet)) [
  | inr short ↦ subst (λ (bs : List ℕ). LinesFor bs lines) (take_all n sheet short) h
  | inl long ↦
      let cut : 65536 < length (take n sheet) = omega (arith, length-take n sheet, le-min {k = 65537} {a = n} {b = length sheet} (omega arith) (omega arith)) in
      inl (at Sheet 1 1, least-long sheet (omega arith), long-line (take n sheet) lines cut h)
]
