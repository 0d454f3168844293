-- The search's terms for a site and the copies of some blocks: placements are choices, and crowded sets are tight.
use Rattle.std.proofs.Common.{◌≡◌, ℕ, suc, ◌^◌, ◌<◌, ◌≤◌, min, Bool, true, ◌&&◌, eqb, ◌⊎◌, List, [], ◌∷◌, ◌++◌, map, length, get_or, take, Some, None, Option, sym, refl, ap, subst, inl, inr, arith}
use Rattle.std.specs.List.{range_with_len, slice_get}
use Rattle.std.proofs.lemmas.Bool.{cases_lt, and_parts, and_from, false≢true}
use Rattle.std.proofs.lemmas.Bool.Decides.{same_from_decides}
use Rattle.std.proofs.lemmas.List.{length-append, length-take-le, get_or-take, get_or_append_left}
use Rattle.std.proofs.lemmas.Option.{slice_get_past}
use Rattle.std.proofs.lemmas.List.FromFn.{length-map-range_with_len, get_or-map-range_with_len}
use Rattle.site.specs.Words.{member}
use Rattle.site.specs.Site.{Site, Place, Limits, keeps, node_rack}
use Rattle.site.proofs.Places.{all-nth}
use Rattle.choices.specs.Sums.{any_to}
use Rattle.choices.specs.Room.{room}
use Rattle.choices.specs.Choice.{Copies, Choice, has}
use Rattle.choices.specs.Tight.{reach, Tight, LeastTight}
use Rattle.choices.specs.Hall.{usable, SomeChoice, NoTight}
use Rattle.choices.specs.Search.{Sized, useful, reach_of, Crowded, Complete, Partial, Subset}
use Rattle.choices.proofs.Finite.{sum_same, count_same}
use Rattle.choices.proofs.Words.{ones-count, member-past, member-same, pow-le}
use Rattle.choices.proofs.Reach.{any-decides, crowded-more}
use Rattle.choices.proofs.Moves.{partial-next, placed_same, complete-front}
use Rattle.choices.proofs.Sets.{uncrowded}
use Rattle.choices.proofs.Find.{searched, decided}

pub keeps-node : (s : Site) (v : ℕ) → keeps s v ≡ true → v < length s
keeps-node s v t =
    elim (cases_lt v (length s)) [
      | inl l ↦ l
      | inr l ↦ let e : slice_get s v ≡ None = slice_get_past s v l in absurd (false≢true (rw (e, keeps) at t))
    ]

pub keeps-racked : (s : Site) (v : ℕ) → Limits s → keeps s v ≡ true → node_rack s v < 32
keeps-racked s v l t = at (slice_get s v) refl
  where
    at : (o : Option Place) → slice_get s v ≡ o → node_rack s v < 32
    at None e = absurd (false≢true (rw (e, keeps) at t))
    at (Some p) e = rw (e, node_rack) (all-nth (λ p. p.0.0 < 32) s v p l.racked e)

iff : (x y : Bool) → (x ≡ true → y ≡ true) → (y ≡ true → x ≡ true) → x ≡ y
iff x y f g = same_from_decides {P = x ≡ true} x y (λ e. e, λ e. e) (g, f)

module _ (s : Site) (c : ℕ) (bs : List Copies) where
  pub sized : Limits s → Sized (length s) 32 (node_rack s) (usable s bs)
  sized l = record {
    node = λ i v u. keeps-node s v (and_parts (keeps s v) _ u).0;
    racked = λ i v u. keeps-racked s v l (and_parts (keeps s v) _ u).0;
  }

  pub choice-of : (vs : List ℕ) → length vs ≡ length bs → Complete (length bs) c (node_rack s) (usable s bs) (λ i. get_or vs i 0) → Choice s c bs vs
  choice-of vs e p = record {
    long = e;
    listed = λ i l. (and_parts (keeps s (get_or vs i 0)) _ (p.usable i l refl)).1;
    kept = λ i l. (and_parts (keeps s (get_or vs i 0)) _ (p.usable i l refl)).0;
    differ = λ i j l m. p.distinct i j l m refl refl;
    spread = p.spread;
  }

  pub complete-of : (vs : List ℕ) → Choice s c bs vs → Complete (length bs) c (node_rack s) (usable s bs) (λ i. get_or vs i 0)
  complete-of vs h = record {
    usable = λ i l _. and_from _ _ (h.kept i l) (h.listed i l);
    distinct = λ i j l m _ _. h.differ i j l m;
    spread = h.spread;
  }

  -- a placement as a list
  pub choice-by : (a : ℕ → ℕ) → Complete (length bs) c (node_rack s) (usable s bs) a → Choice s c bs (map a (range_with_len 0 (length bs)))
  choice-by a p =
      choice-of (map a (range_with_len 0 (length bs))) (length-map-range_with_len a 0 (length bs))
      (placed_same (length bs) c (node_rack s) (node_rack s) (usable s bs) (usable s bs) (λ _. true) a (λ i. get_or (map a (range_with_len 0 (length bs))) i 0)
      (λ i _ _ u. (u, refl)) (λ i l _. sym (get_or-map-range_with_len a 0 (length bs) i i 0 l (omega arith))) p)

  pub reach-same : (w : ℕ) → reach s c bs w ≡ reach_of (length bs) (length s) 32 c (node_rack s) (usable s bs) (member w)
  unfolding room
  reach-same w =
      sum_same 32 _ _ (λ r _. ap (λ k. min c k) (count_same (length s) _ _ (λ v _. node r v)))
    where
      listed : ℕ → ℕ → Bool
      listed v i = member w i && has v (get_or bs i [])

      used : ℕ → ℕ → Bool
      used v i = member w i && usable s bs i v

      node : (r v : ℕ) → (any_to (length bs) (λ i. member w i && has v (get_or bs i [])) && (keeps s v && eqb (node_rack s v) r))
          ≡ useful (length bs) (node_rack s) (usable s bs) (member w) r v
      node r v =
          iff _ _
          (λ t.
          let t' = and_parts (any_to (length bs) (λ i. member w i && has v (get_or bs i []))) _ t in
          let t'' = and_parts (keeps s v) _ t'.1 in
          let h = (any-decides (length bs) (λ i. member w i && has v (get_or bs i []))).0 t'.0 in
          let m = and_parts (member w h.0) _ h.2 in
          and_from _ _ t''.1
          ((any-decides (length bs) (λ i. member w i && usable s bs i v)).1 (h.0, h.1, and_from _ _ m.0 (and_from _ _ t''.0 m.1))))
          (λ t.
          let t' = and_parts (eqb (node_rack s v) r) _ t in
          let h = (any-decides (length bs) (λ i. member w i && usable s bs i v)).0 t'.1 in
          let m = and_parts (member w h.0) _ h.2 in
          let k = and_parts (keeps s v) _ m.1 in
          and_from _ _
          ((any-decides (length bs) (λ i. member w i && has v (get_or bs i []))).1 (h.0, h.1, and_from _ _ m.0 k.1))
          (and_from _ _ k.0 t'.0))

  abbrev pub Crowds : (ℕ → Bool) → Type 0
  Crowds T = Crowded (length bs) (length s) 32 c (node_rack s) (usable s bs) T

  pub tight-of : (w : ℕ) → w < 2 ^ length bs → Crowds (member w) → Tight s c bs w
  tight-of w l t = record { within = l; short = omega (arith, reach-same w, ones-count (length bs) w l, t) }

  pub crowded-of : (w : ℕ) → Tight s c bs w → Crowds (member w)
  crowded-of w t = omega (arith, reach-same w, ones-count (length bs) w t.within, t.short)

  pub least-of : (w : ℕ) → w < 2 ^ length bs → Crowds (member w) → ((T : ℕ → Bool) → Crowds T → Subset w T) → LeastTight s c bs w
  least-of w l t h = record { tight = tight-of w l t; least = λ u tu. h (member u) (crowded-of u tu) }

  pub choice-untight : (vs : List ℕ) → Limits s → Choice s c bs vs → NoTight s c bs
  choice-untight vs l h w t =
      omega (arith, crowded-of w t, uncrowded (length bs) (length s) 32 c (node_rack s) (usable s bs) (sized l) (λ i. get_or vs i 0) (complete-of vs h) (member w))

  -- either is found
  pub choice-or-tight : Limits s → SomeChoice s c bs ⊎ ((w : ℕ) × Tight s c bs w)
  choice-or-tight l =
      elim (decided (length s) 32 c (node_rack s) (usable s bs) (sized l) (length bs)) [
        | inl p ↦ inl (map p.0 (range_with_len 0 (length bs)), choice-by p.0 p.1)
        | inr p ↦ inr (p.0, tight-of p.0 p.1 p.2)
      ]

  pub choice-or-none : Limits s → SomeChoice s c bs ⊎ (SomeChoice s c bs → ⊥)
  choice-or-none l =
      elim (choice-or-tight l) [ inl h ↦ inl h | inr t ↦ inr (λ h. choice-untight h.0 l h.1 t.0 t.1) ]

  pub untight-choice : Limits s → NoTight s c bs → SomeChoice s c bs
  untight-choice l none = elim (choice-or-tight l) [ inl h ↦ h | inr t ↦ absurd (none t.0 t.1) ]

  pub least-one : (u w : ℕ) → LeastTight s c bs u → LeastTight s c bs w → u ≡ w
  least-one u w hu hw =
      member-same (length bs) u w hu.tight.within hw.tight.within
      (λ k _. iff _ _ (hu.least w hw.tight k) (hw.least u hu.tight k))

-- with more blocks after these
module _ (s : Site) (c : ℕ) (bs ds : List Copies) where
  pub usable-front : (i v : ℕ) → i < length bs → usable s (bs ++ ds) i v ≡ usable s bs i v
  usable-front i v l = ap (λ b. keeps s v && has v b) (get_or_append_left bs ds [] i l)

  longer : length bs ≤ length (bs ++ ds)
  longer = rw length-append (omega arith)

  -- the first blocks of a choice
  pub choice-front : (vs : List ℕ) → Choice s c (bs ++ ds) vs → Choice s c bs (take (length bs) vs)
  choice-front vs h =
      choice-of s c bs (take (length bs) vs) (length-take-le (length bs) vs (omega (arith, longer, h.long)))
      (placed_same (length bs) c (node_rack s) (node_rack s) (usable s (bs ++ ds)) (usable s bs) (λ _. true) (λ i. get_or vs i 0) (λ i. get_or (take (length bs) vs) i 0)
      (λ i l _ u. (rw (← (usable-front i (get_or vs i 0) l)) u, refl)) (λ i l _. sym (get_or-take (length bs) vs i 0 l))
      (complete-front (length bs) (length (bs ++ ds)) c (node_rack s) (usable s (bs ++ ds)) (λ i. get_or vs i 0) longer
      (complete-of s c (bs ++ ds) vs h)))

  -- a set that is tight among the first blocks is tight among all
  pub tight-front : (w : ℕ) → Tight s c bs w → Tight s c (bs ++ ds) w
  tight-front w t =
      tight-of s c (bs ++ ds) w (omega (arith, t.within, pow-le (length bs) (length (bs ++ ds)) longer))
      (crowded-more (length bs) (length (bs ++ ds)) (length s) (length s) 32 c (node_rack s) (node_rack s) (usable s bs) (usable s (bs ++ ds)) (member w) longer
      (λ i v l u. (keeps-node s v (and_parts (keeps s v) _ u).0, rw (← (usable-front i v l)) u, refl))
      (λ i l _. member-past (length bs) w i t.within l) (crowded-of s c bs w t))

-- a block more: a choice for all, or a least tight set
pub choice-or-least : (s : Site) (c : ℕ) (bs : List Copies) (b : Copies) → Limits s → (vs : List ℕ) → Choice s c bs vs
    → SomeChoice s c (bs ++ (b ∷ [])) ⊎ ((w : ℕ) × LeastTight s c (bs ++ (b ∷ [])) w)
choice-or-least s c bs b l vs h =
    elim (searched (length (bs ++ (b ∷ []))) (length s) 32 c (node_rack s) (usable s (bs ++ (b ∷ []))) (sized s c (bs ++ (b ∷ [])) l)
    (λ i. get_or vs i 0) (length bs) part) [
      | inl p ↦ inl (map p.0 (range_with_len 0 (length (bs ++ (b ∷ [])))), choice-by s c (bs ++ (b ∷ [])) p.0 p.1)
      | inr p ↦ inr (p.0, least-of s c (bs ++ (b ∷ [])) p.0 p.1 p.2 p.3)
    ]
  where
    one_more : suc (length bs) ≡ length (bs ++ (b ∷ []))
    one_more = rw length-append (omega arith)

    part : Partial (length (bs ++ (b ∷ []))) c (node_rack s) (usable s (bs ++ (b ∷ []))) (λ i. get_or vs i 0) (length bs)
    part =
        subst (λ n. Partial n c (node_rack s) (usable s (bs ++ (b ∷ []))) (λ i. get_or vs i 0) (length bs)) one_more
        (partial-next (length bs) c (node_rack s) (usable s (bs ++ (b ∷ []))) (λ i. get_or vs i 0)
        (placed_same (length bs) c (node_rack s) (node_rack s) (usable s bs) (usable s (bs ++ (b ∷ []))) (λ _. true) (λ i. get_or vs i 0) (λ i. get_or vs i 0)
        (λ i k _ u. (rw (usable-front s c bs (b ∷ []) i (get_or vs i 0) k) u, refl)) (λ i _ _. refl) (complete-of s c bs vs h)))

pub least-exists : (s : Site) (c : ℕ) (bs : List Copies) (b : Copies) → Limits s → SomeChoice s c bs → (SomeChoice s c (bs ++ (b ∷ [])) → ⊥)
    → (w : ℕ) × LeastTight s c (bs ++ (b ∷ [])) w × ((u : ℕ) → LeastTight s c (bs ++ (b ∷ [])) u → u ≡ w)
least-exists s c bs b l h none =
    elim (choice-or-least s c bs b l h.0 h.1) [
      | inl p ↦ absurd (none p)
      | inr w ↦ (w.0, w.1, λ u t. least-one s c (bs ++ (b ∷ [])) u w.0 t w.1)
    ]

-- The same in other words for the same blocks: `V i v` where block i can be left at node v, which lies in rack `place v`.
module _ (s : Site) (c : ℕ) (bs : List Copies) (M : ℕ) (place : ℕ → ℕ) (V : ℕ → ℕ → Bool)
    (sound : (i v : ℕ) → i < length bs → V i v ≡ true → (usable s bs i v ≡ true) × (place v ≡ node_rack s v))
    (whole : (i v : ℕ) → i < length bs → usable s bs i v ≡ true → (v < M) × (V i v ≡ true)) where
  pub choice-from : (vs : List ℕ) → length vs ≡ length bs → (a : ℕ → ℕ) → ((i : ℕ) → i < length bs → a i ≡ get_or vs i 0)
      → Complete (length bs) c place V a → Choice s c bs vs
  choice-from vs e a same p =
      choice-of s c bs vs e
      (placed_same (length bs) c place (node_rack s) V (usable s bs) (λ _. true) a (λ i. get_or vs i 0) (λ i l _ u. sound i (a i) l u) (λ i l _. same i l) p)

  pub complete-from : (vs : List ℕ) → Choice s c bs vs → Complete (length bs) c place V (λ i. get_or vs i 0)
  complete-from vs h =
      placed_same (length bs) c (node_rack s) place (usable s bs) V (λ _. true) (λ i. get_or vs i 0) (λ i. get_or vs i 0)
      (λ i l _ u. let k = whole i (get_or vs i 0) l u in (k.1, sym (sound i (get_or vs i 0) l k.1).1)) (λ i _ _. refl) (complete-of s c bs vs h)

  crowds-from : (T : ℕ → Bool) → Crowded (length bs) M 32 c place V T → Crowds s c bs T
  crowds-from T t =
      crowded-more (length bs) (length bs) M (length s) 32 c place (node_rack s) V (usable s bs) T (omega arith)
      (λ i v l u. let k = whole i v l u in (k.0, k.1, sym (sound i v l k.1).1)) (λ i l m. absurd (omega arith)) t

  crowds-into : (T : ℕ → Bool) → Crowds s c bs T → Crowded (length bs) M 32 c place V T
  crowds-into T t =
      crowded-more (length bs) (length bs) (length s) M 32 c (node_rack s) place (usable s bs) V T (omega arith)
      (λ i v l u. let k = sound i v l u in (keeps-node s v (and_parts (keeps s v) _ k.0).0, k.0, k.1)) (λ i l m. absurd (omega arith)) t

  pub least-from : (w : ℕ) → w < 2 ^ length bs → Crowded (length bs) M 32 c place V (member w)
      → ((T : ℕ → Bool) → Crowded (length bs) M 32 c place V T → Subset w T) → LeastTight s c bs w
  least-from w l t h = least-of s c bs w l (crowds-from (member w) t) (λ T u. h T (crowds-into T u))
