-- One more item in a list that has room, or in one that may be full, whether or not the answer is looked at.
use Rattle.std.proofs.Common.{◌≡◌, ℕ, ◌<◌, List, [], ◌∷◌, ◌++◌, length, MatchResult, Result, Ok, Err, arith}

-- what a push says of its answer, of the list before and of the list after
abbrev pub Pushed : {X T E : Type 0} → ℕ → List X → List X → X → Result T E → Type 0
Pushed room before after x r = MatchResult r (λ _. (length before < room) × (after ≡ before ++ x ∷ [])) (λ _. (length before ≡ room) × (after ≡ before))

module _ {X T E : Type 0} (room : ℕ) (before after : List X) (x : X) where
  pub pushed : (r : Result T E) → Pushed room before after x r → length before < room → after ≡ before ++ x ∷ []
  pushed (Ok t) p h = p.1
  pushed (Err e) p h = absurd (omega (arith, p.0, h))
