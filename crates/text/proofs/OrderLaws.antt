-- Names in some order: what is found field by field is the order of them all, and there is no other.
use Rattle.std.proofs.Common.{◌≡◌, ℕ, ◌+◌, true, false, cond, ◌||◌, eqb, List, [], ◌∷◌, ◌++◌, Some, None, Option, sym, refl, ap, ◌∙◌, arith, Bor}
use Rattle.std.specs.Str.{bytes_eq}
use Rattle.std.specs.List.{position_from, list_any}
use Rattle.std.proofs.lemmas.Bool.Decides.{nat_tests}
use Rattle.text.specs.NodeLists.{headed}
use Rattle.text.specs.Orders.{texts, index_from, indices, elem, distinct, complete}
use Rattle.text.proofs.NodeListLaws.{after, after-headed}

-- as the library looks for a number
pub elem-any : (x : ℕ) (ys : List ℕ) → elem x ys ≡ list_any (λ y. eqb y x) ys
elem-any x [] = refl
elem-any x (y ∷ ys) = ap (λ b. eqb y x || b) (elem-any x ys)

-- the first name that is the text, by place
pub index-position : (k : ℕ) (text : List ℕ) (names : List (Bor (List ℕ))) → index_from k text (texts names) ≡ position_from (λ n. bytes_eq text n.now) k names
index-position k text [] = refl
index-position k text (n ∷ ns) = ap (λ o. cond (bytes_eq text n.now) (Some k) o) (index-position (k + 1) text ns)

elem-pushed : (x y : ℕ) (xs : List ℕ) → elem x (xs ++ y ∷ []) ≡ (elem x xs || eqb y x)
elem-pushed x y [] = grind (arith, nat_tests)
elem-pushed x y (z ∷ xs) = let i = elem-pushed x y xs in grind (arith, nat_tests, i)

elem-within : (x : ℕ) (xs ys : List ℕ) → elem x (xs ++ x ∷ ys) ≡ true
elem-within x [] ys = grind (arith, nat_tests)
elem-within x (z ∷ xs) ys = let i = elem-within x xs ys in grind (arith, nat_tests, i)

pub distinct_more : (x : ℕ) (xs : List ℕ) → distinct xs ≡ true → elem x xs ≡ false → distinct (xs ++ x ∷ []) ≡ true
distinct_more x [] d h = refl
distinct_more x (z ∷ xs) d h =
    let i = distinct_more x xs in
    let p = elem-pushed z x xs in
    grind (arith, nat_tests, i, p)

twice : (x : ℕ) (xs ys : List ℕ) → elem x xs ≡ true → distinct (xs ++ x ∷ ys) ≡ false
twice x [] ys h = let z : ◌≡◌ {A = ℕ} 0 1 = cc in absurd (omega arith)
twice x (z ∷ xs) ys h =
    let i = twice x xs ys in
    let w = elem-within z xs ys in
    grind (arith, nat_tests, i, w)

-- the turns and the ends of the search
module _ (n : ℕ) (taken : List ℕ) where
  pub again : (i : ℕ) (o : Option (List ℕ)) → elem i taken ≡ true → complete n (after taken (headed (Some i) o)) ≡ None
  again i None h = refl
  again i (Some is) h = let d = twice i taken is h in grind (arith, nat_tests, d)

  -- one field: it is no name, a name that was there before, or the next name
  module _ (ns ps : List (List ℕ)) (f : List ℕ) (fs : List (List ℕ)) (is : ps ≡ f ∷ fs) where
    pub same_name : (i : ℕ) → Some i ≡ index_from 0 f ns → true ≡ elem i taken → complete n (after taken (indices ns ps)) ≡ None
    same_name i e h = ap (λ l. complete n (after taken (indices ns l))) is ∙ ap (λ a. complete n (after taken (headed a (indices ns fs)))) (sym e) ∙ again i (indices ns fs) (sym h)

    pub next-name : (i : ℕ) → Some i ≡ index_from 0 f ns → complete n (after taken (indices ns ps)) ≡ complete n (after (taken ++ i ∷ []) (indices ns fs))
    next-name i e = ap (λ l. complete n (after taken (indices ns l))) is ∙ ap (λ a. complete n (after taken (headed a (indices ns fs)))) (sym e) ∙ ap (complete n) (after-headed taken i (indices ns fs))
