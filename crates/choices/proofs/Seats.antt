-- Lists cut down to their yes nodes have the same choices, the same reach and the same tight sets.
use Rattle.std.proofs.Common.{◌≡◌, ℕ, zero, suc, ◌<◌, min, Bool, true, false, ◌&&◌, ◌||◌, eqb, List, [], ◌∷◌, ◌++◌, map, length, get_or, filter, sym, refl, ap, ◌∙◌, ap₂, inl, inr, arith}
use lib.ListN.{length-map}
use Rattle.std.proofs.lemmas.List.{get_or-map}
use Rattle.std.proofs.lemmas.Bool.{cases_Bool, and_parts, and_left, and_right, ne_eqb, both_ways}
use Rattle.site.specs.Words.{member}
use Rattle.site.specs.Site.{Site, keeps, node_rack}
use Rattle.choices.specs.Sums.{any_to}
use Rattle.choices.specs.Room.{room}
use Rattle.choices.specs.Choice.{Copies, Choice, has, every, fits, joined, picks, choices}
use Rattle.choices.specs.Tight.{reach, Tight, LeastTight}
use Rattle.choices.proofs.Counts.{count_same, sum_same}
use Rattle.choices.proofs.Exact.{in-choices, in-choices-from}
use Rattle.choices.proofs.Narrow.{joined_same, kept-by-joined}

kept-by-map : (p : List ℕ → Bool) (g : List ℕ → List ℕ) (xs : List (List ℕ)) → filter p (map g xs) ≡ map g (filter (λ x. p (g x)) xs)
kept-by-map p g [] = refl
kept-by-map p g (x ∷ xs) =
    let i = kept-by-map p g xs in elim (cases_Bool (p (g x))) [ inl t ↦ rw t (ap (λ y. g x ∷ y) i) | inr t ↦ rw t i ]

kept-by-none : (p : List ℕ → Bool) → ((x : List ℕ) → p x ≡ false) → (xs : List (List ℕ)) → filter p xs ≡ []
kept-by-none p h [] = refl
kept-by-none p h (x ∷ xs) = let t = h x in rw t (kept-by-none p h xs)

joined-kept : (q : ℕ → Bool) (g : ℕ → List (List ℕ)) → ((v : ℕ) → q v ≡ false → g v ≡ []) → (b : List ℕ) → joined g (filter q b) ≡ joined g b
joined-kept q g h [] = refl
joined-kept q g h (v ∷ b) =
    let i = joined-kept q g h b in
    elim (cases_Bool (q v)) [ inl t ↦ rw t (ap (λ x. g v ++ x) i) | inr t ↦ rw t (i ∙ sym (ap (λ x. x ++ joined g b) (h v t))) ]

-- what is kept of the picks is kept of those that pass q throughout
kept-picks : (q : ℕ → Bool) (bs : List Copies) (p : List ℕ → Bool) → ((vs : List ℕ) → p vs ≡ true → every q vs ≡ true)
    → filter p (picks (map (filter q) bs)) ≡ filter p (picks bs)
kept-picks q [] p h = refl
kept-picks q (b ∷ bs) p h =
    let g : ℕ → List (List ℕ) = λ v. map (λ vs. v ∷ vs) (filter (λ vs. p (v ∷ vs)) (picks bs)) in
    kept-by-joined p (λ v. map (λ vs. v ∷ vs) (picks (map (filter q) bs))) (filter q b)
    ∙ joined_same _ g
    (λ v.
    kept-by-map p (λ vs. v ∷ vs) (picks (map (filter q) bs))
    ∙ ap (map (λ vs. v ∷ vs)) (kept-picks q bs (λ vs. p (v ∷ vs)) (λ vs t. (and_parts (q v) _ (h (v ∷ vs) t)).1)))
    (filter q b)
    ∙ joined-kept q g
    (λ v t. ap (map (λ vs. v ∷ vs))
    (kept-by-none (λ vs. p (v ∷ vs))
    (λ vs. elim (cases_Bool (p (v ∷ vs))) [ inl u ↦ absurd (both_ways (q v) t (and_parts (q v) _ (h (v ∷ vs) u)).0) | inr u ↦ u ])
    (picks bs)))
    b
    ∙ joined_same g _ (λ v. sym (kept-by-map p (λ vs. v ∷ vs) (picks bs))) b
    ∙ sym (kept-by-joined p (λ v. map (λ vs. v ∷ vs) (picks bs)) b)

pub seat-has : (q : ℕ → Bool) (b : List ℕ) (v : ℕ) → q v ≡ true → has v (filter q b) ≡ has v b
seat-has q [] v h = refl
seat-has q (w ∷ b) v h =
    let i = seat-has q b v h in
    elim (cases_Bool (q w)) [
      | inl t ↦ rw t (ap (λ x. eqb v w || x) i)
      | inr t ↦
          let ne : eqb v w ≡ false = ne_eqb v w (λ e. both_ways (q w) t (rw e at h)) in
          rw (t, ne) i
    ]

any_same : (n : ℕ) (p q : ℕ → Bool) → ((k : ℕ) → k < n → p k ≡ q k) → any_to n p ≡ any_to n q
unfolding any_to
any_same zero p q h = refl
any_same (suc n) p q h = ap₂ (λ x y. x || y) (h n (omega arith)) (any_same n p q (λ k l. h k (omega arith)))

module _ (s : Site) (c : ℕ) (bs : List Copies) where
  pub seat-choices : choices s c (map (filter (keeps s)) bs) ≡ choices s c bs
  seat-choices = kept-picks (keeps s) bs (fits s c) (λ vs t. (and_parts (every (keeps s) vs) _ t).0)

  pub seat-choice : (vs : List ℕ) → Choice s c bs vs → Choice s c (map (filter (keeps s)) bs) vs
  seat-choice vs h = in-choices-from s c (map (filter (keeps s)) bs) vs (rw seat-choices (in-choices s c bs vs h))

  pub seat-choice-from : (vs : List ℕ) → Choice s c (map (filter (keeps s)) bs) vs → Choice s c bs vs
  seat-choice-from vs h = in-choices-from s c bs vs (rw seat-choices at (in-choices s c (map (filter (keeps s)) bs) vs h))

  seat-any : (w v : ℕ) → keeps s v ≡ true
      → any_to (length (map (filter (keeps s)) bs)) (λ i. member w i && has v (get_or (map (filter (keeps s)) bs) i []))
      ≡ any_to (length bs) (λ i. member w i && has v (get_or bs i []))
  seat-any w v t =
      ap (λ n. any_to n (λ i. member w i && has v (get_or (map (filter (keeps s)) bs) i []))) (length-map bs (filter (keeps s)))
      ∙ any_same (length bs) _ _
      (λ k l. ap (λ x. member w k && x) (ap (has v) (get_or-map (filter (keeps s)) bs k [] [] l) ∙ seat-has (keeps s) (get_or bs k []) v t))

  pub seat-reach : (w : ℕ) → reach s c (map (filter (keeps s)) bs) w ≡ reach s c bs w
  unfolding room
  seat-reach w = sum_same 32 _ _ (λ r _. ap (min c) (count_same (length s) _ _ (λ v _. at r v)))
    where
      at : (r v : ℕ)
          → (any_to (length (map (filter (keeps s)) bs)) (λ i. member w i && has v (get_or (map (filter (keeps s)) bs) i [])) && (keeps s v && eqb (node_rack s v) r))
          ≡ (any_to (length bs) (λ i. member w i && has v (get_or bs i [])) && (keeps s v && eqb (node_rack s v) r))
      at r v =
          elim (cases_Bool (keeps s v)) [
            | inl t ↦ ap (λ x. x && (keeps s v && eqb (node_rack s v) r)) (seat-any w v t)
            | inr t ↦ let n = and_left (keeps s v) (eqb (node_rack s v) r) t in and_right _ _ n ∙ sym (and_right _ _ n)
          ]

  pub seat-tight : (w : ℕ) → Tight s c bs w → Tight s c (map (filter (keeps s)) bs) w
  seat-tight w h = record { within = rw (length-map bs (filter (keeps s))) h.within; short = rw (seat-reach w) h.short }

  pub seat-tight-from : (w : ℕ) → Tight s c (map (filter (keeps s)) bs) w → Tight s c bs w
  seat-tight-from w h = record { within = rw (length-map bs (filter (keeps s))) at h.within; short = rw (seat-reach w) at h.short }

  pub seat-least : (w : ℕ) → LeastTight s c bs w → LeastTight s c (map (filter (keeps s)) bs) w
  seat-least w h = record { tight = seat-tight w h.tight; least = λ u t. h.least u (seat-tight-from u t) }

  pub seat-least-from : (w : ℕ) → LeastTight s c (map (filter (keeps s)) bs) w → LeastTight s c bs w
  seat-least-from w h = record { tight = seat-tight-from w h.tight; least = λ u t. h.least u (seat-tight u t) }
