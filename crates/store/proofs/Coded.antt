-- Setting a code up: the limits as a test.
use Rattle.std.proofs.Common.{◌≡◌, ℕ, ◌-◌, true, false, ⊎_elim}
use Rattle.std.proofs.lemmas.Bool.{le-ltb, lt-leb, ltb-false, leb-false, or_from, or_parts, cases_Bool}
use Rattle.blocks.specs.Codes.{Within}
use Rattle.store.specs.Refusals.{outside}

module _ (n k c : ℕ) where
  pub inside : Within n k c → outside n k c ≡ false
  inside w =
      or_from _ _ (le-ltb k 1 w.0) (or_from _ _ (le-ltb 16 k w.1) (or_from _ _ (lt-leb n k w.2) (or_from _ _ (le-ltb 24 n w.3) (or_from _ _ (le-ltb c 1 w.4) (le-ltb (n - k) c w.5)))))

  pub within : outside n k c ≡ false → Within n k c
  within e =
      let a = or_parts _ _ e in
      let b = or_parts _ _ a.1 in
      let d = or_parts _ _ b.1 in
      let f = or_parts _ _ d.1 in
      let h = or_parts _ _ f.1 in
      (ltb-false k 1 a.0, ltb-false 16 k b.0, leb-false n k d.0, ltb-false 24 n f.0, ltb-false c 1 h.0, ltb-false (n - k) c h.1)

  pub beyond : (Within n k c → ⊥) → outside n k c ≡ true
  beyond ne = ⊎_elim (λ e. e) (λ e. absurd (ne (within e))) (cases_Bool (outside n k c))
