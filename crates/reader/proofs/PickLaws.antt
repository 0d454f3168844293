-- n numbers below n, each once, are all of them.
use Rattle.std.proofs.Common.{◌≡◌, ℕ, zero, suc, ◌+◌, ◌<◌, ◌≤◌, true, false, cond, not, eqb, List, [], ◌∷◌, length, refl, ap, subst, ⊎_elim, arith}
use Rattle.std.specs.List.{AllByRecursion}
use Rattle.std.proofs.lemmas.Bool.{cases_Bool, not-true, and_parts, and_from, not_from_false, eqb-true, eqb-false, or_parts, or_from}
use Rattle.text.specs.Orders.{elem, distinct}

without : ℕ → List ℕ → List ℕ
without n [] = []
without n (x ∷ xs) = cond (eqb x n) (without n xs) (x ∷ without n xs)

-- whether x is the number that is left out
split : (n x : ℕ) (xs : List ℕ) (P : List ℕ → Type 0) → (x ≡ n → P (without n xs)) → ((x ≡ n → ⊥) → P (x ∷ without n xs)) → P (without n (x ∷ xs))
unfolding without
split n x xs P here other =
    elim (eqb x n) as (λ b. eqb x n ≡ b → P (cond b (without n xs) (x ∷ without n xs))) [ true ↦ (λ t. here (eqb-true x n t)) | false ↦ (λ t. other (eqb-false x n t)) ] refl

elem-without : (n y : ℕ) (xs : List ℕ) → elem y xs ≡ false → elem y (without n xs) ≡ false
unfolding without
elem-without n y [] e = refl
elem-without n y (x ∷ xs) e =
    let p = or_parts (eqb x y) (elem y xs) e in
    let i = elem-without n y xs p.1 in
    split n x xs (λ l. elem y l ≡ false) (λ _. i) (λ _. or_from (eqb x y) (elem y (without n xs)) p.0 i)

distinct_without : (n : ℕ) (xs : List ℕ) → distinct xs ≡ true → distinct (without n xs) ≡ true
unfolding without
distinct_without n [] d = refl
distinct_without n (x ∷ xs) d =
    let p = and_parts (not (elem x xs)) (distinct xs) d in
    let i = distinct_without n xs p.1 in
    split n x xs (λ l. distinct l ≡ true) (λ _. i) (λ _. and_from (not (elem x (without n xs))) (distinct (without n xs)) (not_from_false (elem x (without n xs)) (elem-without n x xs (not-true (elem x xs) p.0))) i)

length-same : (n : ℕ) (xs : List ℕ) → elem n xs ≡ false → length (without n xs) ≡ length xs
unfolding without
length-same n [] e = refl
length-same n (x ∷ xs) e =
    let p = or_parts (eqb x n) (elem n xs) e in
    let i = length-same n xs p.1 in
    split n x xs (λ l. length l ≡ length (x ∷ xs)) (λ h. absurd (eqb-false x n p.0 h)) (λ _. ap suc i)

length_without : (n : ℕ) (xs : List ℕ) → distinct xs ≡ true → length xs ≤ length (without n xs) + 1
unfolding without
length_without n [] d = omega arith
length_without n (x ∷ xs) d =
    let p = and_parts (not (elem x xs)) (distinct xs) d in
    let i = length_without n xs p.1 in
    split n x xs (λ l. length (x ∷ xs) ≤ length l + 1) (λ h. omega (arith, length-same n xs (subst (λ k. elem k xs ≡ false) h (not-true (elem x xs) p.0)))) (λ _. omega (arith, i))

all_without : (n : ℕ) (xs : List ℕ) → AllByRecursion (λ i. i < suc n) xs → AllByRecursion (λ i. i < n) (without n xs)
unfolding without
all_without n [] a = tt
all_without n (x ∷ xs) a = split n x xs (AllByRecursion (λ i. i < n)) (λ _. all_without n xs a.1) (λ h. (omega (arith, a.0, h), all_without n xs a.1))

-- there are no more than n of them
few : (n : ℕ) (xs : List ℕ) → distinct xs ≡ true → AllByRecursion (λ i. i < n) xs → length xs ≤ n
few zero [] d a = omega arith
few zero (x ∷ xs) d a = absurd (omega (arith, a.0))
few (suc n) xs d a = omega (arith, few n (without n xs) (distinct_without n xs d) (all_without n xs a), length_without n xs d)

pub picks-all : (n : ℕ) (xs : List ℕ) → length xs ≡ n → distinct xs ≡ true → AllByRecursion (λ i. i < n) xs → (j : ℕ) → j < n → elem j xs ≡ true
picks-all n xs l d a j h =
    ⊎_elim (λ t. t) (λ t. absurd (omega (arith, few n (j ∷ xs) (and_from (not (elem j xs)) (distinct xs) (not_from_false (elem j xs) t) d) (h, a)))) (cases_Bool (elem j xs))
