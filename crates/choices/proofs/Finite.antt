-- Sums and counts below a bound: order, one strict place, and a count split by the values of a function.
use Rattle.std.proofs.Common.{◌≡◌, ℕ, zero, suc, ◌+◌, ◌-◌, ◌<◌, ◌≤◌, Bool, true, false, cond, not, ◌&&◌, eqb, ltb, ◌⊎◌, sym, refl, ap, ◌∙◌, subst, ap₂, inl, inr, le_refl, add-le-add, add-one, arith}
use Rattle.std.proofs.lemmas.Bool.{cases_eq, cases_Bool, eqb-true, eq-eqb, ne_eqb, and_parts, and_from, both_ways}
use Rattle.std.proofs.lemmas.Bool.Decides.{nat_tests}
use Rattle.choices.specs.Sums.{sum_to, count_to}

pub sum-le : (n : ℕ) (f g : ℕ → ℕ) → ((k : ℕ) → k < n → f k ≤ g k) → sum_to n f ≤ sum_to n g
unfolding sum_to
sum-le zero f g h = omega arith
sum-le (suc n) f g h = add-le-add (h n (omega arith)) (sum-le n f g (λ k l. h k (omega arith)))

-- equal sums of terms that are each at most the other's are equal term by term
pub sum-pinch : (n : ℕ) (f g : ℕ → ℕ) → ((k : ℕ) → k < n → f k ≤ g k) → sum_to n g ≤ sum_to n f → (j : ℕ) → j < n → g j ≤ f j
unfolding sum_to
sum-pinch zero f g h e j l = absurd (omega arith)
sum-pinch (suc n) f g h e j l =
    let rest : (k : ℕ) → k < n → f k ≤ g k = λ k l. h k (omega arith) in
    let small : sum_to n f ≤ sum_to n g = sum-le n f g rest in
    let top : f n ≤ g n = h n (omega arith) in
    elim (cases_eq j n) [ inl s ↦ rw s (omega arith) | inr s ↦ sum-pinch n f g rest (omega arith) j (omega arith) ]

pub sum_same : (n : ℕ) (f g : ℕ → ℕ) → ((k : ℕ) → k < n → f k ≡ g k) → sum_to n f ≡ sum_to n g
unfolding sum_to
sum_same zero f g h = refl
sum_same (suc n) f g h = ap₂ (λ x y. x + y) (h n (omega arith)) (sum_same n f g (λ k l. h k (omega arith)))

pub sum-add : (n : ℕ) (f g : ℕ → ℕ) → sum_to n (λ k. f k + g k) ≡ sum_to n f + sum_to n g
unfolding sum_to
sum-add zero f g = refl
sum-add (suc n) f g = let e : sum_to n (λ k. f k + g k) ≡ sum_to n f + sum_to n g = sum-add n f g in omega arith

pub sum-zero : (n : ℕ) → sum_to n (λ _. 0) ≡ 0
unfolding sum_to
sum-zero zero = refl
sum-zero (suc n) = let e : sum_to n (λ _. 0) ≡ 0 = sum-zero n in omega arith

sum-point : (n x : ℕ) → sum_to n (λ k. cond (eqb x k) 1 0) ≡ cond (ltb x n) 1 0
unfolding sum_to
sum-point zero x = grind (arith, nat_tests)
sum-point (suc n) x = let e : sum_to n (λ k. cond (eqb x k) 1 0) ≡ cond (ltb x n) 1 0 = sum-point n x in grind (arith, nat_tests)

pub count-le : (n : ℕ) (p q : ℕ → Bool) → ((k : ℕ) → k < n → p k ≡ true → q k ≡ true) → count_to n p ≤ count_to n q
unfolding count_to
count-le zero p q h = omega arith
count-le (suc n) p q h =
    add-le-add (let l : n < suc n = omega arith in let t : p n ≡ true → q n ≡ true = h n l in grind arith)
    (count-le n p q (λ k l. h k (omega arith)))

pub count_same : (n : ℕ) (p q : ℕ → Bool) → ((k : ℕ) → k < n → p k ≡ q k) → count_to n p ≡ count_to n q
unfolding count_to
count_same zero p q h = refl
count_same (suc n) p q h = ap₂ (λ b x. cond b 1 0 + x) (h n (omega arith)) (count_same n p q (λ k l. h k (omega arith)))

pub count_none : (n : ℕ) (p : ℕ → Bool) → ((k : ℕ) → k < n → p k ≡ true → ⊥) → count_to n p ≡ 0
unfolding count_to
count_none zero p h = refl
count_none (suc n) p h =
    let e : count_to n p ≡ 0 = count_none n p (λ k l. h k (omega arith)) in
    elim (cases_Bool (p n)) [ inl t ↦ absurd (h n (omega arith) t) | inr t ↦ simp (t, e) ]

-- one place that q has and p lacks
pub count-lt : (n : ℕ) (p q : ℕ → Bool) → ((k : ℕ) → k < n → p k ≡ true → q k ≡ true) → (j : ℕ) → j < n → p j ≡ false → q j ≡ true
    → count_to n p < count_to n q
unfolding count_to
count-lt zero p q h j l no' on = absurd (omega arith)
count-lt (suc n) p q h j l no' on =
    let rest : (k : ℕ) → k < n → p k ≡ true → q k ≡ true = λ k l. h k (omega arith) in
    let t : p n ≡ true → q n ≡ true = h n (omega arith) in
    let c : count_to n p ≤ count_to n q = count-le n p q rest in
    elim (cases_eq j n) [
      | inl s ↦ let a : p n ≡ false = rw s at no' in let b : q n ≡ true = rw s at on in simp (a, b) (omega arith)
      | inr s ↦ let i : count_to n p < count_to n q = count-lt n p q rest j (omega arith) no' on in grind arith
    ]

-- at most one place passes
pub count-one : (n : ℕ) (p : ℕ → Bool) → ((j k : ℕ) → j < n → k < n → p j ≡ true → p k ≡ true → j ≡ k) → count_to n p ≤ 1
unfolding count_to
count-one zero p h = omega arith
count-one (suc n) p h =
    let i : count_to n p ≤ 1 = count-one n p (λ j k l m. h j k (omega arith) (omega arith)) in
    elim (cases_Bool (p n)) [
      | inl t ↦
          let e : count_to n p ≡ 0 = count_none n p (λ k l s. let z : k ≡ n = h k n (omega arith) (omega arith) s t in omega arith) in
          simp (t, e) (omega arith)
      | inr t ↦ simp t (omega arith)
    ]

pub count-some : (n : ℕ) (p : ℕ → Bool) (j : ℕ) → j < n → p j ≡ true → 1 ≤ count_to n p
unfolding count_to
count-some zero p j l t = absurd (omega arith)
count-some (suc n) p j l t =
    elim (cases_eq j n) [
      | inl s ↦ let a : p n ≡ true = rw s at t in simp a (omega arith)
      | inr s ↦ let i : 1 ≤ count_to n p = count-some n p j (omega arith) t in omega arith
    ]

-- a count is the sum of the counts at each value of f
pub fibers : (m n : ℕ) (p : ℕ → Bool) (f : ℕ → ℕ) → ((k : ℕ) → k < m → p k ≡ true → f k < n)
    → sum_to n (λ r. count_to m (λ k. p k && eqb (f k) r)) ≡ count_to m p
unfolding count_to
fibers zero n p f h = sum-zero n
fibers (suc m) n p f h =
    sum-add n (λ r. cond (p m && eqb (f m) r) 1 0) (λ r. count_to m (λ k. p k && eqb (f k) r))
    ∙ ap₂ (λ x y. x + y) (one (p m) (h m (omega arith))) (fibers m n p f (λ k l. h k (omega arith)))
  where
    one : (b : Bool) → (b ≡ true → f m < n) → sum_to n (λ r. cond (b && eqb (f m) r) 1 0) ≡ cond b 1 0
    one false g = sum-zero n
    one true g = let l : f m < n = g refl in sum-point n (f m) ∙ grind (arith, nat_tests)

count-sum : (n : ℕ) (q : ℕ → Bool) → count_to n q ≡ sum_to n (λ v. cond (q v) 1 0)
unfolding count_to sum_to
count-sum zero q = refl
count-sum (suc n) q = ap (λ x. cond (q n) 1 0 + x) (count-sum n q)

-- all places but j that p passes, q passes too
pub count-but-one : (n : ℕ) (p q : ℕ → Bool) (j : ℕ) → ((k : ℕ) → k < n → (k ≡ j → ⊥) → p k ≡ true → q k ≡ true) → count_to n p ≤ count_to n q + 1
unfolding count_to
count-but-one zero p q j h = omega arith
count-but-one (suc n) p q j h =
    elim (cases_eq n j) [
      | inl s ↦
          let c : count_to n p ≤ count_to n q = count-le n p q (λ k l. h k (omega arith) (omega arith)) in grind arith
      | inr s ↦
          let t : p n ≡ true → q n ≡ true = h n (omega arith) s in
          let c : count_to n p ≤ count_to n q + 1 = count-but-one n p q j (λ k l. h k (omega arith)) in grind arith
    ]

-- f takes what p passes, one to one, to what q passes
pub inject : (m n : ℕ) (p q : ℕ → Bool) (f : ℕ → ℕ) → ((k : ℕ) → k < m → p k ≡ true → (f k < n) × (q (f k) ≡ true))
    → ((j k : ℕ) → j < m → k < m → p j ≡ true → p k ≡ true → f j ≡ f k → j ≡ k) → count_to m p ≤ count_to n q
inject m n p q f into one =
    let each : sum_to n (λ v. count_to m (λ k. p k && eqb (f k) v)) ≤ sum_to n (λ v. cond (q v) 1 0) = sum-le n _ _ at in
    omega (arith, fibers m n p f (λ k l t. (into k l t).0), count-sum n q)
  where
    at : (v : ℕ) → v < n → count_to m (λ k. p k && eqb (f k) v) ≤ cond (q v) 1 0
    at v l =
        elim (cases_Bool (q v)) [
          | inl t ↦
              simp t
              (count-one m (λ k. p k && eqb (f k) v)
              (λ j k a b s u.
              let s' = and_parts (p j) _ s in
              let u' = and_parts (p k) _ u in
              one j k a b s'.0 u'.0 (eqb-true (f j) v s'.1 ∙ sym (eqb-true (f k) v u'.1))))
          | inr t ↦
              let z : count_to m (λ k. p k && eqb (f k) v) ≡ 0 =
              count_none m (λ k. p k && eqb (f k) v)
              (λ k a s.
              let s' = and_parts (p k) _ s in
              let u : q v ≡ true = rw (eqb-true (f k) v s'.1) at (into k a s'.0).1 in
              both_ways (q v) t u) in
              omega arith
        ]

-- and misses v, which q passes
pub inject-lt : (m n : ℕ) (p q : ℕ → Bool) (f : ℕ → ℕ) → ((k : ℕ) → k < m → p k ≡ true → (f k < n) × (q (f k) ≡ true))
    → ((j k : ℕ) → j < m → k < m → p j ≡ true → p k ≡ true → f j ≡ f k → j ≡ k)
    → (v : ℕ) → v < n → q v ≡ true → ((k : ℕ) → k < m → p k ≡ true → f k ≡ v → ⊥) → count_to m p < count_to n q
inject-lt m n p q f into one v l t miss =
    let less : count_to n (λ u. q u && not (eqb u v)) < count_to n q =
    count-lt n (λ u. q u && not (eqb u v)) q (λ k _ s. (and_parts (q k) _ s).0) v l (simp (t, eq-eqb v v refl)) t in
    let most : count_to m p ≤ count_to n (λ u. q u && not (eqb u v)) =
    inject m n p (λ u. q u && not (eqb u v)) f
    (λ k a s. ((into k a s).0, and_from _ _ (into k a s).1 (simp (ne_eqb (f k) v (miss k a s))))) one in
    omega arith

-- each place that q passes is f of one that p passes
pub cover : (m n : ℕ) (p q : ℕ → Bool) (f : ℕ → ℕ) → ((k : ℕ) → k < m → p k ≡ true → f k < n)
    → ((v : ℕ) → v < n → q v ≡ true → (k : ℕ) × (k < m) × (p k ≡ true) × (f k ≡ v)) → count_to n q ≤ count_to m p
cover m n p q f into onto =
    let each : sum_to n (λ v. cond (q v) 1 0) ≤ sum_to n (λ v. count_to m (λ k. p k && eqb (f k) v)) = sum-le n _ _ at in
    omega (arith, fibers m n p f into, count-sum n q)
  where
    at : (v : ℕ) → v < n → cond (q v) 1 0 ≤ count_to m (λ k. p k && eqb (f k) v)
    at v l =
        elim (cases_Bool (q v)) [
          | inl t ↦
              let o = onto v l t in
              simp t (count-some m (λ k. p k && eqb (f k) v) o.0 o.1 (and_from _ _ o.2 (eq-eqb _ _ o.3)))
          | inr t ↦ simp t (omega arith)
        ]

-- a fact of each number below n, unless q
pub each_or : (n : ℕ) (P : ℕ → Type 0) (Q : Type 0) → ((k : ℕ) → k < n → P k ⊎ Q) → ((k : ℕ) → k < n → P k) ⊎ Q
each_or zero P Q h = inl (λ k l. absurd (omega arith))
each_or (suc n) P Q h =
    elim (h n (omega arith)) [
      | inr q ↦ inr q
      | inl p ↦ elim (each_or n P Q (λ k l. h k (omega arith))) [ inr q ↦ inr q | inl ps ↦ inl (λ k l. elim (cases_eq k n) [ inl e ↦ rw e p | inr e ↦ ps k (omega arith) ]) ]
    ]

pub count-max : (n : ℕ) (p : ℕ → Bool) → count_to n p ≤ n
unfolding count_to
count-max zero p = omega arith
count-max (suc n) p = let i : count_to n p ≤ n = count-max n p in grind arith

pub count_yes : (n : ℕ) (p : ℕ → Bool) → p n ≡ true → count_to (n + 1) p ≡ count_to n p + 1
unfolding count_to
count_yes n p t = rw (add-one n) (simp t (omega arith))

pub count_no : (n : ℕ) (p : ℕ → Bool) → p n ≡ false → count_to (n + 1) p ≡ count_to n p
unfolding count_to
count_no n p t = rw (add-one n) (simp t (omega arith))

pub count-mono : (m n : ℕ) (p : ℕ → Bool) → m ≤ n → count_to m p ≤ count_to n p
unfolding count_to
count-mono m zero p l = let e : m ≡ 0 = omega arith in rw e (omega arith)
count-mono m (suc n) p l =
    elim (cases_eq m (suc n)) [
      | inl e ↦ rw e (le_refl _)
      | inr e ↦ let i : count_to m p ≤ count_to n p = count-mono m n p (omega arith) in omega arith
    ]

-- what is past the front counts nothing
pub count-front : (m n : ℕ) (p : ℕ → Bool) → m ≤ n → ((k : ℕ) → m ≤ k → p k ≡ false) → count_to n p ≡ count_to m p
count-front m n p l past = subst (λ j. count_to j p ≡ count_to m p) (omega arith) (further (n - m))
  where
    further : (d : ℕ) → count_to (m + d) p ≡ count_to m p
    further zero = ap (λ j. count_to j p) (omega arith)
    further (suc d) = ap (λ j. count_to j p) (omega arith) ∙ count_no (m + d) p (past (m + d) (omega arith)) ∙ further d
