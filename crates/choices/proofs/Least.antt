-- When a tight set is the least. A block whose leaving out leaves the others a choice is in every tight set, so a tight set of such
-- blocks alone is contained in every other.
use Rattle.std.proofs.Common.{◌≡◌, ℕ, ◌+◌, ◌-◌, ◌^◌, ◌<◌, Bool, true, cond, not, ◌&&◌, ◌||◌, eqb, ltb, ◌⊎◌, List, [], length, get_or, ap, ◌∙◌, inl, inr, le_trans, arith}
use lib.Count.{ones}
use Rattle.std.specs.List.{remove, range_with_len}
use Rattle.std.proofs.lemmas.List.Edits.{length-remove, get_or-remove_below, get_or-remove_above}
use Rattle.std.proofs.lemmas.List.FromFn.{length-range_with_len, get_or-range_with_len}
use Rattle.std.proofs.lemmas.Bool.{cases_lt, lt-ltb, le-ltb, ltb-true, and_parts, and_from, or_cases, not-true, both_ways}
use Rattle.site.specs.Words.{member}
use Rattle.site.specs.Site.{Site, Limits, node_rack}
use Rattle.choices.specs.Choice.{Copies, Choice, every, choices}
use Rattle.choices.specs.Plan.{first_of}
use Rattle.choices.specs.Tight.{reach, Tight, LeastTight}
use Rattle.choices.specs.Hall.{usable, SomeChoice}
use Rattle.choices.specs.Search.{but, Partial}
use Rattle.choices.proofs.Nodes.{every-get_or}
use Rattle.choices.proofs.Head.{first-choice}
use Rattle.choices.proofs.Finite.{inject}
use Rattle.choices.proofs.Moves.{but-no}
use Rattle.choices.proofs.Sets.{forced-out}
use Rattle.choices.proofs.Words.{member-past}
use Rattle.choices.proofs.Sites.{sized, crowded-of}

module _ (s : Site) (c : ℕ) (bs : List Copies) (x : ℕ) (inside : x < length bs) where
  -- where block k stands once x is left out
  skip : ℕ → ℕ
  skip k = cond (ltb k x) k (k - 1)

  skip-cases : (k : ℕ) → but x k ≡ true → ((k < x) × (skip k ≡ k)) ⊎ ((x < k) × (skip k ≡ k - 1))
  unfolding skip
  skip-cases k t =
      elim (cases_lt k x) [
        | inl l ↦ inl (l, simp (lt-ltb k x l))
        | inr l ↦ elim (cases_lt x k) [ inl m ↦ inr (m, simp (le-ltb k x l)) | inr m ↦ absurd (but-no x k t (omega arith)) ]
      ]

  skip-one : (j k : ℕ) → but x j ≡ true → but x k ≡ true → skip j ≡ skip k → j ≡ k
  skip-one j k t u e = grind (arith, skip-cases j t, skip-cases k u)

  skip-inside : (k : ℕ) → k < length bs → but x k ≡ true → skip k < length (remove bs x)
  skip-inside k l t = grind (arith, skip-cases k t, length-remove bs x inside)

  skip-copies : (k : ℕ) → but x k ≡ true → get_or (remove bs x) (skip k) [] ≡ get_or bs k []
  skip-copies k t =
      elim (skip-cases k t) [
        | inl h ↦ rw h.1 (get_or-remove_below bs x [] k h.0 inside)
        | inr h ↦
            let e : k - 1 + 1 ≡ k = omega (arith, h.0) in
            rw h.1 (get_or-remove_above bs x [] (k - 1) (omega (arith, h.0)) inside ∙ ap (λ i. get_or bs i []) e)
      ]

  -- a choice of the others places every block but x
  others-placed : (vs : List ℕ) → Choice s c (remove bs x) vs → Partial (length bs) c (node_rack s) (usable s bs) (λ k. get_or vs (skip k) 0) x
  others-placed vs h = record {
    inside = inside;
    placed = record {
      usable = λ k l t.
          let m = skip-inside k l t in
          and_from _ _ (h.kept (skip k) m) (rw (skip-copies k t) at (h.listed (skip k) m));
      distinct = λ j k l m t u e. skip-one j k t u (h.differ (skip j) (skip k) (skip-inside j l t) (skip-inside k m u) e);
      spread = λ r.
          le_trans
          (inject (length bs) (length (remove bs x)) (λ k. but x k && eqb (node_rack s (get_or vs (skip k) 0)) r) (λ i. eqb (node_rack s (get_or vs i 0)) r) skip
          (λ k l t. let t' = and_parts (but x k) _ t in (skip-inside k l t'.0, t'.1))
          (λ j k l m t u. skip-one j k (and_parts (but x j) _ t).0 (and_parts (but x k) _ u).0))
          (h.spread r);
    };
  }

  -- where the others have a choice, block x is in every tight set
  pub in-every-tight : Limits s → SomeChoice s c (remove bs x) → (u : ℕ) → Tight s c bs u → member u x ≡ true
  in-every-tight l h u t =
      forced-out (length bs) (length s) 32 c (node_rack s) (usable s bs) (sized s c bs l) (λ k. get_or h.0 (skip k) 0) x (others-placed h.0 h.1)
      (member u) (crowded-of s c bs u t)

-- a tight set is the least where leaving out any one of its blocks leaves a choice for the others
pub least-where-needed : (s : Site) (c : ℕ) (bs : List Copies) (w : ℕ) → Limits s → Tight s c bs w
    → ((i : ℕ) → i < length bs → member w i ≡ true → SomeChoice s c (remove bs i)) → LeastTight s c bs w
least-where-needed s c bs w l t h = record {
  tight = t;
  least = λ u tu i m.
      elim (cases_lt i (length bs)) [
        | inl k ↦ in-every-tight s c bs i k l (h i k m) u tu
        | inr k ↦ absurd (both_ways _ (member-past (length bs) w i t.within k) m)
      ];
}

-- whether the blocks without block i have a choice, where i is in the set
abbrev needed : Site → ℕ → List Copies → ℕ → ℕ → Bool
needed s c bs w i = not (member w i) || ltb 0 (length (choices s c (remove bs i)))

-- the same as a test, for sets that are given
abbrev pub test_least : Site → ℕ → List Copies → ℕ → Bool
test_least s c bs w = ltb w (2 ^ length bs) && (ltb (reach s c bs w) (ones w) && every (needed s c bs w) (range_with_len 0 (length bs)))

some-choice : (s : Site) (c : ℕ) (bs : List Copies) → ltb 0 (length (choices s c bs)) ≡ true → SomeChoice s c bs
some-choice s c bs t =
    (first_of (choices s c bs), first-choice s c bs (λ e. let n = ap length e in omega (arith, ltb-true _ _ t, n)))

pub least-by-test : (s : Site) (c : ℕ) (bs : List Copies) (w : ℕ) → Limits s → test_least s c bs w ≡ true → LeastTight s c bs w
least-by-test s c bs w l t =
    let t' = and_parts (ltb w (2 ^ length bs)) _ t in
    let t'' = and_parts (ltb (reach s c bs w) (ones w)) _ t'.1 in
    least-where-needed s c bs w l (record { within = ltb-true _ _ t'.0; short = ltb-true _ _ t''.0 })
    (λ i k m.
    let n : i < length (range_with_len 0 (length bs)) = rw length-range_with_len k in
    let e : get_or (range_with_len 0 (length bs)) i 0 ≡ i = get_or-range_with_len 0 (length bs) i 0 k ∙ omega arith in
    elim (or_cases (not (member w i)) _ (rw e at (every-get_or (needed s c bs w) (range_with_len 0 (length bs)) i 0 t''.1 n))) [
      | inl no' ↦ absurd (both_ways (member w i) (not-true _ no') m)
      | inr left ↦ some-choice s c (remove bs i) left
    ])
