-- The order that is found is an order of the fields' names; and where the names differ, every such order is found.
use Rattle.std.proofs.Common.{◌≡◌, ℕ, zero, suc, ◌+◌, ◌<◌, true, false, cond, ◌&&◌, eqb, ◌⊎◌, List, [], ◌∷◌, map, length, get_or, Some, None, Option, sym, refl, ap, ◌∙◌, subst, inl, inr, ⊎_elim, arith}
use Rattle.std.specs.List.{AllByRecursion}
use Rattle.std.specs.Str.{bytes_eq}
use Rattle.std.proofs.lemmas.Slice.Eq.{bytes_eq-Decides}
use Rattle.std.proofs.lemmas.Bool.{and_parts, eqb-true, eq-eqb}
use Rattle.std.proofs.lemmas.Bool.Decides.{not_from_Decides}
use Rattle.text.specs.NodeLists.{headed}
use Rattle.text.specs.Orders.{index_from, indices, distinct, complete, order_of, Order, Apart, Ordered}

-- the index of a name that is the text, or that none is
abbrev Indexed : ℕ → List ℕ → List (List ℕ) → Option ℕ → Type 0
Indexed k text ns r =
    ((j : ℕ) × (r ≡ Some (k + j)) × (j < length ns) × (get_or ns j [] ≡ text))
    ⊎ ((r ≡ None) × ((i : ℕ) → i < length ns → get_or ns i [] ≡ text → ⊥))

indexed : (k : ℕ) (text : List ℕ) (ns : List (List ℕ)) → Indexed k text ns (index_from k text ns)
indexed k text [] = inr (refl, λ i h. absurd (omega arith))
indexed k text (n ∷ ns) =
    elim (bytes_eq text n) as (λ b. bytes_eq text n ≡ b → Indexed k text (n ∷ ns) (cond b (Some k) (index_from (k + 1) text ns))) [
      | true ↦ λ t. inl (0, ap Some (here k), omega arith, sym ((bytes_eq-Decides text n).0 t))
      | false ↦ λ t. further (index_from (k + 1) text ns) t (indexed (k + 1) text ns)
    ] refl where
      here : (k : ℕ) → k ≡ k + 0
      here k = omega arith

      neither : bytes_eq text n ≡ false → ((i : ℕ) → i < length ns → get_or ns i [] ≡ text → ⊥) → (i : ℕ) → i < length (n ∷ ns) → get_or (n ∷ ns) i [] ≡ text → ⊥
      neither t none zero h e = not_from_Decides _ (bytes_eq-Decides text n) t (sym e)
      neither t none (suc i) h e = none i (omega arith) e

      next : (k j : ℕ) → k + 1 + j ≡ k + suc j
      next k j = omega arith

      further : (r : Option ℕ) → bytes_eq text n ≡ false → Indexed (k + 1) text ns r → Indexed k text (n ∷ ns) r
      further r t h = ⊎_elim (λ p. inl (suc p.0, p.1 ∙ ap Some (next k p.0), omega (arith, p.2), p.3)) (λ p. inr (p.0, neither t p.1)) h

same_some : {A : Type 0} (x y : A) → Some x ≡ Some y → x ≡ y
same_some x y e = cc

never : {A : Type 0} (x : A) → Some x ≡ None → ⊥
never x e = let z : ◌≡◌ {A = ℕ} 0 1 = cc in omega arith

-- an index that is found is that of a name
index_of : (text : List ℕ) (ns : List (List ℕ)) (i : ℕ) → index_from 0 text ns ≡ Some i → (i < length ns) × (text ≡ get_or ns i [])
index_of text ns i e =
    ⊎_elim
    (λ p. let is : i ≡ p.0 = same_some _ _ (sym e ∙ p.1) ∙ zeroth p.0 in (omega (arith, is, p.2), sym p.3 ∙ ap (λ j. get_or ns j []) (sym is)))
    (λ p. absurd (never i (sym e ∙ p.0)))
    (indexed 0 text ns) where
      zeroth : (j : ℕ) → 0 + j ≡ j
      zeroth j = omega arith

Named : List (List ℕ) → List (List ℕ) → List ℕ → Type 0
Named ns fs is = AllByRecursion (λ i. i < length ns) is × (fs ≡ map (λ i. get_or ns i []) is)

named : (ns fs : List (List ℕ)) (is : List ℕ) → indices ns fs ≡ Some is → Named ns fs is
unfolding Named
named ns [] is e = subst (λ l. AllByRecursion (λ i. i < length ns) l × ([] ≡ map (λ i. get_or ns i []) l)) (same_some _ _ e) (tt, refl)
named ns (f ∷ fs) is e = step (named ns fs) (index_from 0 f ns) (indices ns fs) refl refl e where
  step : ((us : List ℕ) → indices ns fs ≡ Some us → AllByRecursion (λ i. i < length ns) us × (fs ≡ map (λ i. get_or ns i []) us)) → (a : Option ℕ) (o : Option (List ℕ)) → index_from 0 f ns ≡ a → indices ns fs ≡ o → headed a o ≡ Some is → AllByRecursion (λ i. i < length ns) is × (f ∷ fs ≡ map (λ i. get_or ns i []) is)
  step more None o p q e = absurd (never is (sym e))
  step more (Some i) None p q e = absurd (never is (sym e))
  step more (Some i) (Some us) p q e =
      let here = index_of f ns i p in
      let rest = more us q in
      subst (λ l. AllByRecursion (λ i. i < length ns) l × (f ∷ fs ≡ map (λ i. get_or ns i []) l)) (same_some _ _ e) ((here.0, rest.0), (λ k. here.1 k ∷ rest.1 k))

-- where the names differ, the order of some of them is found from their texts
found : (ns : List (List ℕ)) (is : List ℕ) → Apart ns → AllByRecursion (λ i. i < length ns) is → indices ns (map (λ i. get_or ns i []) is) ≡ Some is
found ns [] apart h = refl
found ns (i ∷ is) apart h = (λ k. headed (at i h.0 k) (found ns is apart h.1 k)) where
  at : (i : ℕ) → i < length ns → index_from 0 (get_or ns i []) ns ≡ Some i
  at i h =
      ⊎_elim
      (λ p. let same : 0 + p.0 ≡ i = omega (arith, apart p.0 i p.2 h p.3) in p.1 ∙ ap Some same)
      (λ p. absurd (p.1 i h refl))
      (indexed 0 (get_or ns i []) ns)

pub order-found : (n : ℕ) (ns fs : List (List ℕ)) (is : List ℕ) → Apart ns → Order n ns fs is → order_of n ns fs ≡ Some is
order-found n ns fs is apart o =
    ap (order_of n ns) o.fields ∙ ap (complete n) (found ns is apart o.names) ∙ (λ k. cond (eq-eqb (length is) n o.all k && o.once k) (Some is) None)

pub order_is : (n : ℕ) (ns fs : List (List ℕ)) (is : List ℕ) → order_of n ns fs ≡ Some is → Order n ns fs is
unfolding Named
order_is n ns fs is e = from (indices ns fs) refl e where
  from : (o : Option (List ℕ)) → indices ns fs ≡ o → complete n o ≡ Some is → Order n ns fs is
  from None q e = absurd (never is (sym e))
  from (Some us) q e =
      elim (eqb (length us) n && distinct us) as (λ b. (eqb (length us) n && distinct us) ≡ b → cond b (Some us) None ≡ Some is → Order n ns fs is) [
        | true ↦ λ t e.
            (let p = and_parts _ _ t in
            let m = named ns fs us q in
            subst (Order n ns fs) (same_some us is e) (record { all = eqb-true _ n p.0; once = p.1; names = m.0; fields = m.1 }))
        | false ↦ λ t e. absurd (never is (sym e))
      ] refl e

pub ordered : (n : ℕ) (ns fs : List (List ℕ)) (r : Option (List ℕ)) → r ≡ order_of n ns fs → Ordered n ns fs r
ordered n ns fs None e = λ apart is o. never is (sym (order-found n ns fs is apart o) ∙ sym e)
ordered n ns fs (Some is) e = order_is n ns fs is (sym e)
