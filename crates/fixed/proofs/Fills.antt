-- Room that is filled from the front, an item after the other, with blanks past them.
use Rattle.std.proofs.Common.{◌≡◌, ℕ, ◌+◌, ◌-◌, ◌<◌, ◌≤◌, List, [], ◌∷◌, ◌++◌, length, get_or, take, drop, set, replicate, sym, ap, ◌∙◌, subst, arith, length-take-le}
use Rattle.std.proofs.lemmas.List.{length-set, take_all, take_more, take_more_set}
use Rattle.fixed.specs.Blanks.{blank-more}

-- the first i items, or all where there are fewer, stand in front of a room of m places, and blanks after them
abbrev pub Filled : {X : Type 0} → ℕ → List X → X → ℕ → List X → Type 0
Filled m items z i at =
    (length at ≡ m) × (take (length (take i items)) at ≡ take i items) × (drop (length (take i items)) at ≡ replicate (m - length (take i items)) z)

module _ {X : Type 0} (m i : ℕ) (items at : List X) (z : X) (h : Filled m items z i at) where
  pub filled-more : (x : X) → i < m → i < length items → x ≡ get_or items i x → Filled m items z (i + 1) (set at i x)
  filled-more x room l is =
      let n : length (take i items) ≡ i = length-take-le i items (omega (arith, l)) in
      let n' : length (take (i + 1) items) ≡ i + 1 = length-take-le (i + 1) items (omega (arith, l)) in
      let long : i < length at = omega (arith, h.0, room) in
      let front : take i at ≡ take i items = ap (λ k. take k at) (sym n) ∙ h.1 in
      let rest : drop i at ≡ replicate (m - i) z = ap (λ k. drop k at) (sym n) ∙ (h.2 ∙ ap (λ k. replicate (m - k) z) n) in (
        length-set at i x ∙ h.0,
        ap (λ k. take k (set at i x)) n'
            ∙ (take_more_set at i x long ∙ (ap (λ t. t ++ x ∷ []) front ∙ (ap (λ y. take i items ++ y ∷ []) is ∙ sym (take_more items i x l)))),
        ap (λ k. drop k (set at i x)) n' ∙ (blank-more m i at x z long room rest ∙ ap (λ k. replicate (m - k) z) (sym n')),
      )

  pub filled-past : length items ≤ i → Filled m items z (i + 1) at
  filled-past past =
      let e : take i items ≡ take (i + 1) items = take_all i items past ∙ sym (take_all (i + 1) items (omega (arith, past))) in
      subst (λ t. (length at ≡ m) × (take (length t) at ≡ t) × (drop (length t) at ≡ replicate (m - length t) z)) e h
