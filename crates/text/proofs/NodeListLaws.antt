-- One word after the other, a node list is read: what is kept of the words so far, and what is left.
use Rattle.std.proofs.Common.{◌≡◌, ℕ, ◌<◌, ◌≤◌, List, [], ◌∷◌, ◌++◌, length, take, Some, None, Ok, Err, Option, Result, MatchResult, sym, refl, ap, ◌∙◌, ⊎_elim, append_assoc, arith}
use Rattle.std.proofs.lemmas.Bool.{cases_lt}
use Rattle.std.proofs.lemmas.List.{take_all, take-append-le, length-take, length-take-le, length_push}
use Rattle.text.specs.Numbers.{number_in}
use Rattle.text.specs.NodeLists.{headed, numbers_in}

-- the numbers so far, and those that are yet to come
abbrev pub after : List ℕ → Option (List ℕ) → Option (List ℕ)
after vs None = None
after vs (Some ws) = Some (vs ++ ws)

pub after_nothing : (o : Option (List ℕ)) → after [] o ≡ o
after_nothing None = refl
after_nothing (Some ws) = refl

pub after-headed : (vs : List ℕ) (v : ℕ) (o : Option (List ℕ)) → after vs (headed (Some v) o) ≡ after (vs ++ v ∷ []) o
after-headed vs v None = refl
after-headed vs v (Some us) = ap Some (sym (append_assoc vs (v ∷ []) us))

-- one turn: the first word of what is left is w, and ws follow it
module _ (vs : List ℕ) (ps : List (List ℕ)) (w : List ℕ) (ws : List (List ℕ)) (is : ps ≡ w ∷ ws) where
  pub turn-good : (v : ℕ) → Some v ≡ number_in 65535 w → after vs (numbers_in 65535 ps) ≡ after (vs ++ v ∷ []) (numbers_in 65535 ws)
  turn-good v e =
      ap (λ l. after vs (numbers_in 65535 l)) is ∙ ap (λ o. after vs (headed o (numbers_in 65535 ws))) (sym e) ∙ after-headed vs v (numbers_in 65535 ws)

-- one more number at the end, of which the first eight are kept
pub kept-more : {E : Type 0} (vs nodes new : List ℕ) (v : ℕ) (r : Result Unit E) → nodes ≡ take 8 vs → MatchResult r (λ _. (length nodes < 8) × (new ≡ nodes ++ v ∷ [])) (λ _. (length nodes ≡ 8) × (new ≡ nodes)) → new ≡ take 8 (vs ++ v ∷ [])
kept-more vs nodes new v (Ok u) e p =
    let all = take_all 8 vs (⊎_elim (λ h. omega (arith, p.0, ap length e, length-take-le 8 vs (omega (arith, h)))) (λ h. h) (cases_lt 8 (length vs))) in
    let small : length (vs ++ v ∷ []) ≤ 8 = omega (arith, length_push vs v, p.0, ap length (e ∙ all)) in
    p.1 ∙ ap (λ l. l ++ v ∷ []) (e ∙ all) ∙ sym (take_all 8 (vs ++ v ∷ []) small)
kept-more vs nodes new v (Err u) e p =
    p.1 ∙ e ∙ sym (take-append-le 8 vs (v ∷ []) (omega (arith, p.0, ap length e, length-take 8 vs)))
