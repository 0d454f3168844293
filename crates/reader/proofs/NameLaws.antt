-- Names that begin with different letters differ, so that a names line has one order at most.
use Rattle.std.proofs.Common.{◌≡◌, ℕ, zero, suc, ◌<◌, true, false, eqb, List, [], ◌∷◌, map, length, get_or, Some, None, Option, sym, refl, ap, ◌∙◌, subst, ⊎_elim, arith}
use lib.ListN.{length-map}
use Rattle.std.specs.List.{AllByRecursion}
use Rattle.std.proofs.lemmas.Bool.{and_parts, eqb-true, eq-eqb, or_right, or_left, not-true, both_ways, or_cases}
use Rattle.text.specs.Orders.{elem, distinct, Order, Apart, Ordered}
use Rattle.text.specs.Pieces.{parted}
use Rattle.text.proofs.OrderExact.{order-found}
use Rattle.reader.specs.Names.{code_names, regular_names, node_names, call_names, InOrder, NoOrder, OrderFound}

pub elem_at : (xs : List ℕ) (j x : ℕ) → j < length xs → get_or xs j 0 ≡ x → elem x xs ≡ true
elem_at [] j x h e = absurd (omega arith)
elem_at (y ∷ xs) zero x h e = or_left (eqb y x) (elem x xs) (eq-eqb y x e)
elem_at (y ∷ xs) (suc j) x h e = or_right (eqb y x) (elem x xs) (elem_at xs j x (omega arith) e)

pub distinct-at : (xs : List ℕ) (i j : ℕ) → distinct xs ≡ true → i < length xs → j < length xs → get_or xs i 0 ≡ get_or xs j 0 → i ≡ j
distinct-at [] i j d h k e = absurd (omega arith)
distinct-at (x ∷ xs) zero zero d h k e = refl
distinct-at (x ∷ xs) zero (suc j) d h k e = absurd (both_ways (elem x xs) (not-true (elem x xs) (and_parts _ _ d).0) (elem_at xs j x (omega arith) (sym e)))
distinct-at (x ∷ xs) (suc i) zero d h k e = absurd (both_ways (elem x xs) (not-true (elem x xs) (and_parts _ _ d).0) (elem_at xs i x (omega arith) e))
distinct-at (x ∷ xs) (suc i) (suc j) d h k e = ap suc (distinct-at xs i j (and_parts _ _ d).1 (omega arith) (omega arith) e)

first-at : (ns : List (List ℕ)) (i : ℕ) → i < length ns → get_or (map (λ bs. get_or bs 0 0) ns) i 0 ≡ get_or (get_or ns i []) 0 0
first-at [] i h = absurd (omega arith)
first-at (n ∷ ns) zero h = refl
first-at (n ∷ ns) (suc i) h = first-at ns i (omega arith)

pub apart-by-first : (ns : List (List ℕ)) → distinct (map (λ bs. get_or bs 0 0) ns) ≡ true → Apart ns
apart-by-first ns d i j h k e =
    let l : length (map (λ bs. get_or bs 0 0) ns) ≡ length ns = simp length-map in
    distinct-at (map (λ bs. get_or bs 0 0) ns) i j d (omega (arith, l)) (omega (arith, l)) (first-at ns i h ∙ ap (λ bs. get_or bs 0 0) e ∙ sym (first-at ns j k))

pub found-order : (n : ℕ) (names : List (List ℕ)) (line : List ℕ) (r : Option (List ℕ)) → n ≡ length names → Apart names → Ordered n names (parted 44 line) r → OrderFound names line r
found-order n names line None e apart h = λ is o. h apart is (subst (λ m. Order m names (parted 44 line) is) (sym e) o)
found-order n names line (Some is) e apart h = subst (λ m. Order m names (parted 44 line) is) e h

-- an order that is found is one, and where none is found there is none
pub found-is : (n : ℕ) (names : List (List ℕ)) (line : List ℕ) (r : Option (List ℕ)) (is : List ℕ) → n ≡ length names → Apart names → Ordered n names (parted 44 line) r → r ≡ Some is → InOrder names line is
found-is n names line r is e apart h s = subst (OrderFound names line) s (found-order n names line r e apart h)

pub found-none : (n : ℕ) (names : List (List ℕ)) (line : List ℕ) (r : Option (List ℕ)) → n ≡ length names → Apart names → Ordered n names (parted 44 line) r → r ≡ None → NoOrder names line
found-none n names line r e apart h s = subst (OrderFound names line) s (found-order n names line r e apart h)

pub code_apart : Apart code_names
code_apart = apart-by-first code_names refl

pub regular-apart : Apart regular_names
regular-apart = apart-by-first regular_names refl

pub node-apart : Apart node_names
node-apart = apart-by-first node_names refl

pub call-apart : Apart call_names
call-apart = apart-by-first call_names refl

same_some : {A : Type 0} (x y : A) → Some x ≡ Some y → x ≡ y
same_some x y e = cc

pub one-order : (names : List (List ℕ)) (line is js : List ℕ) → Apart names → InOrder names line is → InOrder names line js → is ≡ js
one-order names line is js apart o p =
    same_some is js (sym (order-found (length names) names (parted 44 line) is apart o) ∙ order-found (length names) names (parted 44 line) js apart p)

pub order-fields : (names : List (List ℕ)) (line is : List ℕ) → InOrder names line is → length (parted 44 line) ≡ length names
order-fields names line is o = ap length o.fields ∙ length-map is (λ i. get_or names i []) ∙ o.all

-- an empty line has no names
pub order-some : (names : List (List ℕ)) (line is : List ℕ) → 0 < length names → InOrder names line is → 0 < length line
order-some names [] is h o = absurd (omega (arith, order-fields names [] is o))
order-some names (b ∷ line) is h o = omega arith

pub order-names : (names : List (List ℕ)) (line is : List ℕ) → InOrder names line is → (j : ℕ) → elem j is ≡ true → j < length names
order-names names line is o j e = within is o.names e where
  within : (js : List ℕ) → AllByRecursion (λ i. i < length names) js → elem j js ≡ true → j < length names
  within [] a e = absurd (both_ways false refl e)
  within (i ∷ js) a e = ⊎_elim (λ p. omega (arith, a.0, eqb-true i j p)) (within js a.1) (or_cases (eqb i j) (elem j js) e)
