-- The steps of narrowing: a block left one seat alone, and all blocks in turn.
use Rattle.std.proofs.Common.{◌≡◌, ℕ, ◌+◌, ◌<◌, ◌≤◌, true, false, ◌&&◌, eqb, List, [], ◌∷◌, map, length, get_or, set, None, Option, sym, refl, ap, ◌∙◌, subst, inl, inr, le_trans, arith}
use Rattle.std.proofs.lemmas.List.{map-set, length-set, get_or-set_same, get_or-set_other, get_or_past}
use Rattle.std.proofs.lemmas.Bool.{cases_eq, cases_lt, eqb-true, eq-eqb, and_parts, and_from, or_cases, or_left, false≢true}
use Rattle.site.specs.Words.{member}
use Rattle.site.specs.Site.{Site, keeps, node_rack}
use Rattle.choices.specs.Choice.{Copies, Choice, has, choices}
use Rattle.choices.specs.Hall.{usable}
use Rattle.choices.specs.Order.{narrow, Narrowing}
use Rattle.choices.specs.Plan.{first_of}
use Rattle.choices.specs.Search.{but, Complete}
use Rattle.choices.proofs.Finite.{count-le}
use Rattle.choices.proofs.Moves.{placed_same, but-no}
use Rattle.choices.proofs.Narrow.{narrowing_none, narrowing-more, narrowing-all, narrow-found}
use Rattle.choices.proofs.Nodes.{has-at}
use Rattle.choices.proofs.Sets.{uncrowded}
use Rattle.choices.proofs.Sites.{sized, choice-by, complete-of}
use Rattle.placement.specs.declared.seat.Seat.{Seat}
use Rattle.placement.specs.declared.first.Settling.{Settling}
use Rattle.placement.specs.Seats.{list_at, seat_in, seat_of, node_of, node_at, Settled, Placing, Crowding, Sits}
use Rattle.placement.specs.Resolved.{seat_at, Seating}
use Rattle.placement.specs.Firsts.{placed, Standing, Narrows, Its}
use Rattle.placement.proofs.Seated.{some-none}
use Rattle.placement.proofs.Resolves.{sits-of, seats-long, seats-count, seat-read}

-- all sit: a choice
pub standing-choice : (s : Site) (c : ℕ) (ds : List Copies) (p : Settling) → Standing s c ds p → Choice s c ds (placed (length ds) p.sat.at)
standing-choice s c ds p h = choice-by s c ds (node_at p.sat.at) h.settled.complete

-- the same seats and sitting are as good
pub standing-same : (s : Site) (c : ℕ) (ds : List Copies) (p q : Settling) → q.seats ≡ p.seats → q.c ≡ p.c → q.sat.at ≡ p.sat.at → Standing s c ds p
    → Standing s c ds q
standing-same s c ds p q e m f h = record {
  limits = h.limits;
  most = m ∙ h.most;
  seating = subst (Seating s ds) (sym e) h.seating;
  settled = subst (Settled (node_rack s) (usable s ds) (length ds) c) (sym f) h.settled;
}

-- a block with a seat is one of the blocks
pub inside-of : (ds : List Copies) (i j : ℕ) → j < length (get_or ds i []) → i < length ds
inside-of ds i j m = elim (cases_lt i (length ds)) [ inl l ↦ l | inr l ↦ absurd (omega (arith, m, ap length (get_or_past ds i [] l))) ]

-- the seat that the code reads
pub its-read : (s : Site) (c : ℕ) (ds : List Copies) (p : Settling) → Standing s c ds p → (i j : ℕ) (list : List Seat) → list ≡ list_at p.seats i
    → j < length (get_or ds i []) → Its s ds i j (seat_in list j)
its-read s c ds p h i j list is m = (m, ap (λ z. seat_in z j) is ∙ seat-read s ds p.seats h.seating i j (inside-of ds i j m) m)

-- block i is left its seat v, at place j
module _ (s : Site) (c : ℕ) (ds : List Copies) (p : Settling) (h : Standing s c ds p) (i j : ℕ) (v : Seat) (m : Its s ds i j v) where
  inside : i < length ds
  inside = inside-of ds i j m.0

  node_kept : keeps s (get_or (get_or ds i []) j 0) ≡ true
  node_kept = h.seating.kept i (get_or (get_or ds i []) j 0) (has-at (get_or ds i []) j m.0)

  only : (u : ℕ) → has u (get_or (get_or ds i []) j 0 ∷ []) ≡ true → u ≡ get_or (get_or ds i []) j 0
  only u t = elim (or_cases (eqb u (get_or (get_or ds i []) j 0)) false t) [ inl e ↦ eqb-true u _ e | inr e ↦ absurd (false≢true e) ]

  narrow-seating : Seating s (narrow ds i j) (set p.seats i (v ∷ []))
  narrow-seating = record {
    same =
        ap (λ z. set z i (v ∷ [])) h.seating.same ∙ ap (λ z. set (map (map (seat_at s)) ds) i (z ∷ [])) m.1
        ∙ sym (map-set (map (seat_at s)) ds i (get_or (get_or ds i []) j 0 ∷ []));
    few = rw length-set h.seating.few;
    kept = λ k u t.
        elim (cases_eq k i) [
          | inl e ↦
              let t' : has u (get_or (get_or ds i []) j 0 ∷ []) ≡ true =
              ap (has u) (sym (ap (λ z. get_or (narrow ds i j) z []) e ∙ get_or-set_same ds i (get_or (get_or ds i []) j 0 ∷ []) [] inside)) ∙ t in
              ap (keeps s) (only u t') ∙ node_kept
          | inr e ↦ h.seating.kept k u (ap (has u) (sym (get_or-set_other ds i k (get_or (get_or ds i []) j 0 ∷ []) [] e)) ∙ t)
        ];
  }

  narrow-count : length (narrow ds i j) ≡ length ds
  narrow-count = length-set ds i (get_or (get_or ds i []) j 0 ∷ [])

  other : (k u : ℕ) → (k ≡ i → ⊥) → usable s ds k u ≡ true → usable s (narrow ds i j) k u ≡ true
  other k u ne t = subst (λ b. (keeps s u && has u b) ≡ true) (sym (get_or-set_other ds i k (get_or (get_or ds i []) j 0 ∷ []) [] ne)) t

  here : usable s (narrow ds i j) i (get_or (get_or ds i []) j 0) ≡ true
  here =
      subst (λ b. (keeps s (get_or (get_or ds i []) j 0) && has (get_or (get_or ds i []) j 0) b) ≡ true) (sym (get_or-set_same ds i (get_or (get_or ds i []) j 0 ∷ []) [] inside))
      (and_from (keeps s (get_or (get_or ds i []) j 0)) _ node_kept (or_left (eqb (get_or (get_or ds i []) j 0) (get_or (get_or ds i []) j 0)) _ (eq-eqb _ _ refl)))

  -- q has that block's seat alone
  module _ (q : Settling) (left : q.seats ≡ set p.seats i (v ∷ [])) (most : q.c ≡ p.c) where
    pub narrow-sat : Settled (node_rack s) (usable s (narrow ds i j)) (length ds) c q.sat.at → Standing s c (narrow ds i j) q
    narrow-sat k = record {
      limits = h.limits;
      most = most ∙ h.most;
      seating = subst (Seating s (narrow ds i j)) (sym left) narrow-seating;
      settled = subst (λ n. Settled (node_rack s) (usable s (narrow ds i j)) n c q.sat.at) (sym narrow-count) k;
    }

    -- where it sits there already
    pub narrow-there : q.sat.at ≡ p.sat.at → node_at p.sat.at i ≡ v.node.0 → Standing s c (narrow ds i j) q
    narrow-there same e =
        narrow-sat (subst (Settled (node_rack s) (usable s (narrow ds i j)) (length ds) c) (sym same) (record {
          complete = placed_same (length ds) c (node_rack s) (node_rack s) (usable s ds) (usable s (narrow ds i j)) (λ _. true) (node_at p.sat.at) (node_at p.sat.at)
              (λ k _ _ u. (
                elim (cases_eq k i) [
                  | inl d ↦ subst (λ z. usable s (narrow ds i j) z (node_at p.sat.at z) ≡ true) (sym d)
                      (subst (λ z. usable s (narrow ds i j) i z ≡ true) (sym (e ∙ ap (λ z. z.node.0) m.1)) here)
                  | inr d ↦ other k (node_at p.sat.at k) d u
                ],
                refl,
              ))
              (λ k _ _. refl) h.settled.complete;
          tells = h.settled.tells;
        }))

  -- else it is taken out
  module _ (at : List (Option Seat)) (out : at ≡ set p.sat.at i None) (seats : List (List Seat)) (left : seats ≡ set p.seats i (v ∷ [])) where
    place : i < length p.sat.at
    place = omega (arith, inside, h.seating.few, p.sat.places)

    seat-there : (k : ℕ) → (k ≡ i → ⊥) → seat_of at k ≡ seat_of p.sat.at k
    seat-there k ne = ap (λ z. seat_of z k) out ∙ get_or-set_other p.sat.at i k None None ne

    node-there : (k : ℕ) → (k ≡ i → ⊥) → node_at p.sat.at k ≡ node_at at k
    node-there k ne = ap node_of (sym (seat-there k ne))

    pub narrow-placing : Placing (node_rack s) (usable s (narrow ds i j)) (length s) (length ds) c seats at i
    narrow-placing = record {
      sized = sized s c (narrow ds i j) h.limits;
      sits = subst (λ k. Sits (node_rack s) (usable s (narrow ds i j)) k seats) narrow-count
          (sits-of s (narrow ds i j) seats (subst (Seating s (narrow ds i j)) (sym left) narrow-seating));
      tells = record {
        told = λ k l ne.
            let o = h.settled.tells.told k l (λ z. omega (arith, l, z)) in
            (o.0, seat-there k ne ∙ o.1, o.2 ∙ node-there k ne, ap (node_rack s) (sym (node-there k ne)) ∙ o.3);
        only = λ k o e.
            elim (cases_eq k i) [
              | inl d ↦ absurd (some-none o (sym (ap (seat_of at) d ∙ ap (λ z. seat_of z i) out ∙ get_or-set_same p.sat.at i None None place) ∙ e))
              | inr d ↦ ((h.settled.tells.only k o (sym (seat-there k d) ∙ e)).0, d)
            ];
      };
      partial = record {
        inside = inside;
        placed =
            placed_same (length ds) c (node_rack s) (node_rack s) (usable s ds) (usable s (narrow ds i j)) (but i) (node_at p.sat.at) (node_at at)
            (λ k _ t u. (other k (node_at p.sat.at k) (but-no i k t) u, refl))
            (λ k _ t. node-there k (but-no i k t))
            (record {
              usable = λ k g t. h.settled.complete.usable k g refl;
              distinct = λ a b g k _ _ e. h.settled.complete.distinct a b g k refl refl e;
              spread = λ r.
                  le_trans
                  (count-le (length ds) (λ k. but i k && eqb (node_rack s (node_at p.sat.at k)) r) (λ k. true && eqb (node_rack s (node_at p.sat.at k)) r) (λ k g t. (and_parts (but i k) _ t).1))
                  (h.settled.complete.spread r);
            });
      };
    }

  pub narrow-none : (w : ℕ) → Crowding (node_rack s) (usable s (narrow ds i j)) (length s) (length ds) c w → (vs : List ℕ) → Choice s c (narrow ds i j) vs → ⊥
  narrow-none w k vs d =
      omega (
        arith,
        k.crowded,
        uncrowded (length ds) (length s) 32 c (node_rack s) (usable s (narrow ds i j)) (sized s c (narrow ds i j) h.limits) (λ a. get_or vs a 0)
            (subst (λ z. Complete z c (node_rack s) (usable s (narrow ds i j)) (λ a. get_or vs a 0)) narrow-count (complete-of s c (narrow ds i j) vs d))
            (member w),
      )

-- no seat of block i before j leaves a choice
abbrev pub InVain : Site → ℕ → List Copies → ℕ → ℕ → Type 0
InVain s c ds i j = (k : ℕ) → k < j → k < length (get_or ds i []) → (vs : List ℕ) → Choice s c (narrow ds i k) vs → ⊥

pub vain-more : (s : Site) (c : ℕ) (ds : List Copies) (i j : ℕ) → InVain s c ds i j
    → (j < length (get_or ds i []) → (vs : List ℕ) → Choice s c (narrow ds i j) vs → ⊥) → InVain s c ds i (j + 1)
vain-more s c ds i j vain f k l m vs d =
    elim (cases_eq k j) [
      | inl e ↦ f (omega (arith, m, e)) vs (subst (λ z. Choice s c (narrow ds i z) vs) e d)
      | inr e ↦ vain k (omega (arith, l, e)) m vs d
    ]

pub narrows-none : (s : Site) (c : ℕ) (bs : List Copies) (p : Settling) → Standing s c bs p → Narrows s c bs 0 p
narrows-none s c bs p h = record { lists = bs; standing = h; narrowing = narrowing_none s c bs (placed (length bs) p.sat.at) (standing-choice s c bs p h) }

module _ (s : Site) (c : ℕ) (bs : List Copies) (i : ℕ) (p : Settling) (h : Narrows s c bs i p) where
  pub narrows-all : i ≡ length bs → placed (length p.seats) p.sat.at ≡ first_of (choices s c bs)
  narrows-all e =
      let n : length p.seats ≡ length h.lists = seats-long s h.lists p.seats h.standing.seating in
      ap (λ m. placed m p.sat.at) n
      ∙ sym (narrowing-all s c bs h.lists (placed (length h.lists) p.sat.at) (subst (λ z. Narrowing s c bs h.lists z (placed (length h.lists) p.sat.at)) e h.narrowing))

  module _ (l : i < length bs) where
    pub within : i < length h.lists
    within = omega (arith, l, h.narrowing.long)

    pub listed : length (list_at p.seats i) ≡ length (get_or h.lists i [])
    listed = seats-count s h.lists p.seats h.standing.seating i within

    pub narrows-more : (j : ℕ) → j < length (get_or h.lists i []) → InVain s c h.lists i j → (q : Settling)
        → Standing s c (narrow h.lists i j) q → Narrows s c bs (i + 1) q
    narrows-more j m vain q f = record {
      lists = narrow h.lists i j;
      standing = f;
      narrowing = narrowing-more s c bs h.lists i j (placed (length h.lists) p.sat.at) (placed (length (narrow h.lists i j)) q.sat.at) h.narrowing l m
          (λ b g. vain b g (omega (arith, g, m))) (standing-choice s c (narrow h.lists i j) q f);
    }

    -- some seat leaves a choice
    pub narrows-some : (j : ℕ) → length (list_at p.seats i) ≤ j → InVain s c h.lists i j → ⊥
    narrows-some j k vain =
        let o = narrow-found s c h.lists (placed (length h.lists) p.sat.at) i within h.narrowing.choice in
        vain o.0 (omega (arith, o.1, k, listed)) o.1 (placed (length h.lists) p.sat.at) o.2
