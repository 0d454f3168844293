-- The lists that are read are those whose text the bytes are.
use Rattle.std.proofs.Common.{◌≡◌, ℕ, ◌≤◌, true, false, cond, List, [], ◌∷◌, ◌++◌, map, Some, None, decimal, Option, sym, refl, ap, ◌∙◌, subst, arith}
use Rattle.std.specs.List.{flat_map, AllByRecursion}
use Rattle.std.specs.Str.Parse.{digits_value}
use Rattle.std.proofs.lemmas.Fmt.{decimal_nonempty}
use Rattle.std.proofs.ByRecursion.{All-from_get_or}
use Rattle.text.specs.Numbers.{is_number, number_in}
use Rattle.text.specs.Pieces.{parted, glued}
use Rattle.text.specs.Spaced.{spaced}
use Rattle.text.specs.NodeLists.{headed, numbers_in, node_list_in, Listed}
use Rattle.text.proofs.GlueLaws.{Free, glued-parted, parted-glued}
use Rattle.text.proofs.NumberLaws.{number_is, exact-is, all_digits}

further-glued : (vs : List ℕ) → flat_map (λ u. 32 ∷ decimal u) vs ≡ flat_map (λ q. 32 ∷ q) (map decimal vs)
further-glued [] = refl
further-glued (v ∷ vs) = ap (λ l. (32 ∷ decimal v) ++ l) (further-glued vs)

spaced-glued : (vs : List ℕ) → spaced vs ≡ glued 32 (map decimal vs)
spaced-glued [] = refl
spaced-glued (v ∷ vs) = ap (λ l. decimal v ++ l) (further-glued vs)

digits-free : (v : ℕ) → v ≤ 65535 → Free 32 (decimal v)
digits-free v h = All-from_get_or (λ b. b ≡ 32 → ⊥) (decimal v) 0 (λ i l e. omega (arith, all_digits (decimal v) v (omega arith) refl i l))

all-free : (vs : List ℕ) → AllByRecursion (λ v. v ≤ 65535) vs → AllByRecursion (Free 32) (map decimal vs)
all-free [] h = tt
all-free (v ∷ vs) h = (digits-free v h.0, all-free vs h.1)

pub parted-spaced : (vs : List ℕ) → AllByRecursion (λ v. v ≤ 65535) vs → parted 32 (spaced vs) ≡ map decimal vs
parted-spaced [] h = refl
parted-spaced (v ∷ vs) h = ap (parted 32) (spaced-glued (v ∷ vs)) ∙ parted-glued 32 (decimal v) (map decimal vs) (decimal_nonempty v (omega (arith, h.0))) (digits-free v h.0) (all-free vs h.1)

pub reads-back : (vs : List ℕ) → AllByRecursion (λ v. v ≤ 65535) vs → numbers_in 65535 (map decimal vs) ≡ Some vs
reads-back [] h = refl
reads-back (v ∷ vs) h = (λ k. headed (sym (exact-is 65535 (decimal v) (Some v) (omega arith) (h.0, refl)) k) (reads-back vs h.1 k))

same_some : {A : Type 0} (x y : A) → Some x ≡ Some y → x ≡ y
same_some x y e = cc

never : {A : Type 0} (x : A) → Some x ≡ None → ⊥
never x e = let z : ◌≡◌ {A = ℕ} 0 1 = cc in omega arith

number-some : (bs : List ℕ) (v : ℕ) → number_in 65535 bs ≡ Some v → (v ≤ 65535) × (bs ≡ decimal v)
number-some bs v e =
    elim (is_number 65535 bs) as (λ t. is_number 65535 bs ≡ t → cond t (Some (digits_value 10 bs)) None ≡ Some v → (v ≤ 65535) × (bs ≡ decimal v)) [
      | true ↦ λ t e. subst (λ u. (u ≤ 65535) × (bs ≡ decimal u)) (same_some (digits_value 10 bs) v e) (number_is 65535 bs (omega arith) t)
      | false ↦ λ t e. absurd (never v (sym e))
    ] refl e

words_are : (ws : List (List ℕ)) (vs : List ℕ) → numbers_in 65535 ws ≡ Some vs → AllByRecursion (λ v. v ≤ 65535) vs × (ws ≡ map decimal vs)
words_are [] vs e = subst (λ us. AllByRecursion (λ v. v ≤ 65535) us × ([] ≡ map decimal us)) (same_some [] vs e) (tt, refl)
words_are (w ∷ ws) vs e = step (words_are ws) (number_in 65535 w) (numbers_in 65535 ws) refl refl e where
  step : ((us : List ℕ) → numbers_in 65535 ws ≡ Some us → AllByRecursion (λ v. v ≤ 65535) us × (ws ≡ map decimal us)) → (a : Option ℕ) (o : Option (List ℕ)) → number_in 65535 w ≡ a → numbers_in 65535 ws ≡ o → headed a o ≡ Some vs → AllByRecursion (λ v. v ≤ 65535) vs × (w ∷ ws ≡ map decimal vs)
  step more None o p q e = absurd (never vs (sym e))
  step more (Some u) None p q e = absurd (never vs (sym e))
  step more (Some u) (Some us) p q e =
      let here = number-some w u p in
      let rest = more us q in
      subst (λ l. AllByRecursion (λ v. v ≤ 65535) l × (w ∷ ws ≡ map decimal l)) (same_some (u ∷ us) vs e) ((here.0, rest.0), (λ k. here.1 k ∷ rest.1 k))

pub listed : (bs : List ℕ) → Listed bs (node_list_in bs)
listed bs = by (node_list_in bs) refl where
  by : (r : Option (List ℕ)) → node_list_in bs ≡ r → Listed bs r
  by None e = λ vs h is. never vs (sym (ap node_list_in is ∙ ap (numbers_in 65535) (parted-spaced vs h) ∙ reads-back vs h) ∙ e)
  by (Some vs) e =
      let w = words_are (parted 32 bs) vs e in
      (w.0, sym (glued-parted 32 bs) ∙ ap (glued 32) w.1 ∙ sym (spaced-glued vs))
