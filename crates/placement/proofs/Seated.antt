-- The search's steps at the seats, whatever they tell of.
use Rattle.std.proofs.Common.{◌≡◌, ℕ, ◌+◌, ◌%◌, ◌^◌, ◌<◌, ◌≤◌, Bool, true, false, cond, ◌&&◌, eqb, ltb, ◌⊎◌, List, length, get_or, set, Some, None, Ok, Err, Option, Result, MatchResult, sym, refl, ap, ◌∙◌, subst, inl, inr, mod-eq_of_lt, add-one, arith}
use lib.Bits.{bit_or}
use Rattle.std.proofs.lemmas.List.{get_or-set_same, get_or-set_other, length-set, set-set, set-get_or}
use Rattle.std.proofs.lemmas.Bool.{cases_eq, cases_Bool, eqb-true, eqb-false, eq-eqb, ne_eqb, and_from, and_parts, not-true, not_from_false, both_ways, false≢true}
use Rattle.site.specs.Words.{member}
use Rattle.choices.specs.Sums.{count_to}
use Rattle.choices.specs.Search.{but, Free, Moved, Open, Shut, Way, in_rack, Sized, Complete, Grown, Failed, Blocked, Trying}
use Rattle.choices.proofs.Finite.{count_same, count-front}
use Rattle.choices.proofs.Moves.{partial-next, complete-front, placed_same}
use Rattle.choices.proofs.Sets.{uncrowded}
use Rattle.choices.proofs.Steps as steps
use Rattle.choices.proofs.Words.{member-one}
use Rattle.placement.specs.declared.seat.Seat.{Seat}
use Rattle.placement.specs.Seats.{list_at, seat_in, seat_of, node_of, node_at, lies_at, lies_in, shares, Unheld, Blockers, Offers, Sits, Tells, Told, Own, Grounded, Settled, Seated, Unseated, Placing, Crowding, Extended, Stuck, Refusing}
use Rattle.placement.proofs.Sets.{with-below}

-- what is written over and put back
pub restored : {A : Type 0} (xs xs₁ xs₂ : List A) (i : ℕ) (a d : A) → xs₁ ≡ xs → xs₂ ≡ set xs₁ i a → set xs₂ i (get_or xs i d) ≡ xs
restored xs xs₁ xs₂ i a d e f =
    ap (λ b. set b i (get_or xs i d)) (f ∙ ap (λ b. set b i a) e) ∙ set-set xs i a (get_or xs i d) ∙ set-get_or xs i d

-- y gave way to x, and both have again what they had
pub undone : (at at₁ at₂ at₃ at₄ at₅ at₆ : List (Option Seat)) (x y : ℕ) (v : Option Seat) (left had : Option Seat) → at₁ ≡ at
    → left ≡ seat_of at₁ y → at₂ ≡ set at₁ y None → had ≡ seat_of at₂ x → at₃ ≡ set at₂ x v → at₄ ≡ at₃ → at₅ ≡ set at₄ x had → at₆ ≡ set at₅ y left → at₆ ≡ at
undone at at₁ at₂ at₃ at₄ at₅ at₆ x y v left had e l p h q s r z =
    let back : at₅ ≡ at₂ = r ∙ ap (set at₄ x) h ∙ restored at₂ at₂ at₄ x v None refl (s ∙ q) in
    z ∙ ap (set at₅ y) l ∙ restored at₁ at₁ at₅ y None None refl (back ∙ p) ∙ e

lies-some : (r : ℕ) (o : Option Seat) → lies_in r o ≡ true → (q : Seat) × (o ≡ Some q)
lies-some r None e = absurd (false≢true e)
lies-some r (Some q) e = (q, refl)

pub at-node : (u : ℕ) (o : Option Seat) → lies_at u o ≡ true → node_of o ≡ u
at-node u None e = absurd (false≢true e)
at-node u (Some v) e = eqb-true v.node.0 u e

pub some-none : (q : Seat) → ◌≡◌ {A = Option Seat} None (Some q) → ⊥
some-none q e = cc

-- two tests that pass together
same_test : (s t : Bool) → (s ≡ true → t ≡ true) → (t ≡ true → s ≡ true) → s ≡ t
same_test true t f h = sym (f refl)
same_test false true f h = h refl
same_test false false f h = refl

-- x goes to the node u
abbrev pub move : (ℕ → ℕ) → ℕ → ℕ → ℕ → ℕ
move a x u k = cond (eqb k x) u (a k)

move-here : (a : ℕ → ℕ) (x u k : ℕ) → k ≡ x → move a x u k ≡ u
move-here a x u k e = ap (λ b. cond b u (a k)) (eq-eqb k x e)

move-there : (a : ℕ → ℕ) (x u k : ℕ) → (k ≡ x → ⊥) → move a x u k ≡ a k
move-there a x u k ne = ap (λ b. cond b u (a k)) (ne_eqb k x ne)

moved : (a : ℕ → ℕ) (x u : ℕ) → Moved a x u (move a x u)
moved a x u = record { here = move-here a x u x refl; there = move-there a x u }

-- the same with x at the node u
abbrev pub told-move : Told → ℕ → ℕ → Told
told-move t x u = record { rack = t.rack; U = t.U; N = t.N; n = t.n; a = move t.a x u }

-- what the blocks in the rack of a seat v of x tell of it
module _ (t : Told) (c : ℕ) (seats : List (List Seat)) (few : length seats ≤ 17) (at : List (Option Seat)) (places : length at ≡ 17) (x w₀ : ℕ)
    (g : Grounded t c seats at x w₀) where
  inside : x < t.n
  inside = g.ready.partial.inside

  short : t.n ≤ 17
  short = omega (arith, g.sits.long)

  long : x < length at
  long = omega (arith, inside, short)

  but-x : (k : ℕ) → (k ≡ x → ⊥) → but x k ≡ true
  but-x k ne = not_from_false _ (ne_eqb k x ne)

  node-told : (k : ℕ) → k < t.n → (k ≡ x → ⊥) → node_at at k ≡ t.a k
  node-told k l ne = let q = g.tells.told k l ne in ap node_of q.1 ∙ q.2

  module _ (v : Seat) (own : Own t.rack t.U x v) where
    low-seat : v.rack.0 % 32 ≡ t.rack v.node.0
    low-seat = ap (λ z. z % 32) (sym own.1) ∙ mod-eq_of_lt (g.ready.sized.racked x v.node.0 own.0)

    low : (k : ℕ) (l : k < t.n) (ne : k ≡ x → ⊥) → (g.tells.told k l ne).0.rack.0 % 32 ≡ t.rack (t.a k)
    low k l ne =
        ap (λ z. z % 32) (sym (g.tells.told k l ne).3)
        ∙ mod-eq_of_lt (g.ready.sized.racked k (t.a k) (g.ready.partial.placed.usable k l (but-x k ne)))

    there : (k : ℕ) → k < t.n → (k ≡ x → ⊥) → t.rack (t.a k) ≡ t.rack v.node.0 → shares at v k ≡ true
    there k l ne e = ap (lies_in (v.rack.0 % 32)) (g.tells.told k l ne).1 ∙ eq-eqb _ _ (low k l ne ∙ e ∙ sym low-seat)

    only : (k : ℕ) → shares at v k ≡ true → (k < t.n) × (k ≡ x → ⊥) × (t.rack (t.a k) ≡ t.rack v.node.0) × (node_at at k ≡ t.a k)
    only k m =
        let s = lies-some _ (seat_of at k) m in
        let o = g.tells.only k s.0 s.1 in
        let e : (g.tells.told k o.0 o.1).0.rack.0 % 32 ≡ v.rack.0 % 32 = eqb-true _ _ (sym (ap (lies_in (v.rack.0 % 32)) (g.tells.told k o.0 o.1).1) ∙ m) in
        (o.0, o.1, sym (low k o.0 o.1) ∙ e ∙ low-seat, node-told k o.0 o.1)

    free : Unheld at v → Free t.n t.a x v.node.0
    free h k l ne e = h k (there k l ne (ap t.rack e)) (node-told k l ne ∙ e)

    load : count_to 32 (shares at v) ≡ in_rack t.n t.rack t.a x (t.rack v.node.0)
    load =
        count-front t.n 32 (shares at v) (omega (arith, short))
        (λ k l. elim (cases_Bool (shares at v k)) [ inl m ↦ absurd (omega (arith, (only k m).0, l)) | inr f ↦ f ])
        ∙ count_same t.n (shares at v) (λ k. but x k && eqb (t.rack (t.a k)) (t.rack v.node.0))
        (λ k l. same_test _ _
        (λ m. let o = only k m in and_from _ _ (but-x k o.1) (eq-eqb _ _ o.2))
        (λ m. let p = and_parts (but x k) _ m in there k l (eqb-false k x (not-true _ p.0)) (eqb-true _ _ p.1)))

    -- no other block has to move
    module _ (h : Blockers c at v None) where
      open_told : Open t.n c t.rack t.a x v.node.0
      open_told = (free h.0, omega (arith, h.1, load))

      same-node : (k : ℕ) → k < t.n → move t.a x v.node.0 k ≡ node_at (set at x (Some v)) k
      same-node k l =
          elim (cases_eq k x) [
            | inl e ↦ move-here t.a x v.node.0 k e ∙ sym (ap node_of (ap (seat_of (set at x (Some v))) e ∙ get_or-set_same at x (Some v) None long))
            | inr e ↦ move-there t.a x v.node.0 k e ∙ sym (ap node_of (get_or-set_other at x k (Some v) None e) ∙ node-told k l e)
          ]

      pub opened : Settled t.rack t.U t.n c (set at x (Some v))
      opened = record {
        complete =
            placed_same t.n c t.rack t.rack t.U t.U (λ _. true) (move t.a x v.node.0) (node_at (set at x (Some v))) (λ _ _ _ u. (u, refl)) (λ k l _. same-node k l)
            (steps.opened t.n t.N 32 c t.rack t.U t.a x v.node.0 w₀ g.ready own.0 t.a (move t.a x v.node.0) refl (moved t.a x v.node.0) open_told);
        tells = record {
          told = λ k l _.
              elim (cases_eq k x) [
                | inl e ↦
                    let s : seat_of (set at x (Some v)) k ≡ Some v = ap (seat_of (set at x (Some v))) e ∙ get_or-set_same at x (Some v) None long in
                    (v, s, sym (ap node_of s), ap t.rack (ap node_of s) ∙ own.1)
                | inr e ↦
                    let q = g.tells.told k l e in
                    let s : seat_of (set at x (Some v)) k ≡ Some q.0 = get_or-set_other at x k (Some v) None e ∙ q.1 in
                    (q.0, s, sym (ap node_of s), ap t.rack (ap node_of s ∙ q.2) ∙ q.3)
              ];
          only = λ k q s.
              let l : k < t.n = elim (cases_eq k x) [
                | inl e ↦ omega (arith, e, inside)
                | inr e ↦ (g.tells.only k q (sym (get_or-set_other at x k (Some v) None e) ∙ s)).0
              ] in
              (l, (λ e. omega (arith, l, e)));
        };
      }

    -- one of the blocks b has to
    module _ (b : ℕ) (h : Blockers c at v (Some b)) where
      shut-told : Shut t.n c t.rack t.a x v.node.0
      shut-told =
          elim h [
            | inl p ↦ let o = only p.0 p.1 in inl (p.0, o.0, o.1, sym o.3 ∙ p.2)
            | inr p ↦ inr (free p.0, omega (arith, p.1, load))
          ]

      mine : (y : ℕ) → member b y ≡ true → shares at v y ≡ true
      mine y m =
          elim h [
            | inl p ↦
                let e : y ≡ p.0 = eqb-true y p.0 (sym (ap (λ z. member z y) p.3 ∙ member-one p.0 y) ∙ m) in
                ap (shares at v) e ∙ p.1
            | inr p ↦ sym (p.2 y) ∙ m
          ]

      way-told : (y : ℕ) → member b y ≡ true → Way t.n t.rack t.a x y v.node.0
      way-told y m =
          elim h [
            | inl p ↦
                let e : y ≡ p.0 = eqb-true y p.0 (sym (ap (λ z. member z y) p.3 ∙ member-one p.0 y) ∙ m) in
                inl (ap t.a e ∙ sym (only p.0 p.1).3 ∙ p.2)
            | inr p ↦ inr (free p.0, (only y (mine y m)).2)
          ]

      way-not : (y : ℕ) → y < t.n → (y ≡ x → ⊥) → member b y ≡ false → Way t.n t.rack t.a x y v.node.0 → ⊥
      way-not y l ne m way =
          elim h [
            | inl p ↦
                let o = only p.0 p.1 in
                elim way [
                  | inl e ↦
                      let q : y ≡ p.0 = g.ready.partial.placed.distinct y p.0 l o.0 (but-x y ne) (but-x p.0 o.1) (e ∙ sym p.2 ∙ o.3) in
                      both_ways _ m (ap (λ z. member z y) p.3 ∙ member-one p.0 y ∙ eq-eqb y p.0 q)
                  | inr e ↦ e.0 p.0 o.0 o.1 (sym o.3 ∙ p.2)
                ]
            | inr p ↦
                elim way [
                  | inl e ↦ free p.0 y l ne e
                  | inr e ↦ both_ways _ m (p.2 y ∙ there y l ne e.1)
                ]
          ]

      -- the blocks from y on and below y' are no blockers, or were taken out before
      pub skipped : (w y y' : ℕ) → Trying t.n t.N 32 c t.rack t.U t.a x v.node.0 w₀ w y → y' ≤ t.n
          → ((k : ℕ) → y ≤ k → k < y' → (member w k ≡ true) ⊎ (member b k ≡ false)) → Trying t.n t.N 32 c t.rack t.U t.a x v.node.0 w₀ w y'
      skipped w y y' tried all why =
          steps.trying-on t.n t.N 32 c t.rack t.U t.a x v.node.0 w₀ w y y' tried
          (λ k l j. elim (cases_eq k x) [
            | inl q ↦ inl q
            | inr q ↦ elim (why k l j) [ inl z ↦ inr (inl z) | inr z ↦ inr (inr (way-not k (omega (arith, j, all)) q z)) ]
          ])

      pub tried_none : (y : ℕ) → y ≤ t.n → ((k : ℕ) → k < y → member b k ≡ false) → Trying t.n t.N 32 c t.rack t.U t.a x v.node.0 w₀ w₀ y
      tried_none y all none = skipped w₀ 0 y (steps.trying-none t.n t.N 32 c t.rack t.U t.a x v.node.0 w₀) all (λ k _ j. inr (none k j))

      pub tried_all : (w : ℕ) → Trying t.n t.N 32 c t.rack t.U t.a x v.node.0 w₀ w t.n → Blocked t.n t.N 32 c t.rack t.U t.a x v.node.0 w₀ w
      tried_all w tried = steps.trying-all t.n t.N 32 c t.rack t.U t.a x v.node.0 w₀ w t.n tried (omega arith) shut-told

      module _ (y : ℕ) (m : member b y ≡ true) where
        pub of-y : (y < t.n) × (y ≡ x → ⊥) × (t.rack (t.a y) ≡ t.rack v.node.0) × (node_at at y ≡ t.a y)
        of-y = only y (mine y m)

        -- the call for the block y that gives way
        pub next : (w s : ℕ) → s ≡ bit_or w (2 ^ y) → (at₂ : List (Option Seat)) → at₂ ≡ set (set at y None) x (Some v)
            → Grounded (told-move t x v.node.0) c seats at₂ y s
        next w s q at₂ e = subst (λ z. Grounded (told-move t x v.node.0) c seats z y s) (sym e) (record {
          sits = g.sits;
          tells = record {
            told = λ k l ne.
                elim (cases_eq k x) [
                  | inl d ↦ (
                    v,
                    ap (seat_of (set (set at y None) x (Some v))) d ∙ get_or-set_same (set at y None) x (Some v) None (omega (arith, long, length-two)),
                    sym (move-here t.a x v.node.0 k d),
                    ap t.rack (move-here t.a x v.node.0 k d) ∙ own.1,
                  )
                  | inr d ↦
                      let q = g.tells.told k l d in (
                        q.0,
                        get_or-set_other (set at y None) x k (Some v) None d ∙ get_or-set_other at y k None None ne ∙ q.1,
                        q.2 ∙ sym (move-there t.a x v.node.0 k d),
                        ap t.rack (move-there t.a x v.node.0 k d) ∙ q.3,
                      )
                ];
            only = λ k o s.
                elim (cases_eq k x) [
                  | inl d ↦ (omega (arith, inside, d), (λ z. of-y.1 (sym z ∙ d)))
                  | inr d ↦
                      let s' : seat_of (set at y None) k ≡ Some o = sym (get_or-set_other (set at y None) x k (Some v) None d) ∙ s in
                      elim (cases_eq k y) [
                        | inl z ↦ absurd (some-none o (sym (ap (seat_of (set at y None)) z ∙ get_or-set_same at y None None (omega (arith, of-y.0, short, places))) ∙ s'))
                        | inr z ↦ ((g.tells.only k o (sym (get_or-set_other at y k None None z) ∙ s')).0, z)
                      ]
                ];
          };
          ready = steps.ready-next t.n t.N 32 c t.rack t.U t.a x v.node.0 w₀ g.ready own.0 t.a (move t.a x v.node.0) refl (moved t.a x v.node.0) w y s
              of-y.0 of-y.1 (way-told y m) q;
        })
          where
            length-two : length (set at y None) ≡ length at
            length-two = length-set at y None

        -- y was taken out in vain
        pub retried : (w s w' y' : ℕ) → Trying t.n t.N 32 c t.rack t.U t.a x v.node.0 w₀ w y → member w y ≡ false → s ≡ bit_or w (2 ^ y)
            → Failed t.n t.N 32 c t.rack t.U (move t.a x v.node.0) y s w' → y' ≤ t.n
            → ((k : ℕ) → y < k → k < y' → member b k ≡ false) → Trying t.n t.N 32 c t.rack t.U t.a x v.node.0 w₀ w' y'
        retried w s w' y' tried no' q f all none =
            skipped w' (y + 1) y'
            (steps.retried t.n t.N 32 c t.rack t.U t.a x v.node.0 w₀ g.ready own.0 t.a (move t.a x v.node.0) refl (moved t.a x v.node.0) w y s w' tried
            of-y.0 of-y.1 no' (way-told y m) q f)
            all (λ k l j. inr (none k (omega (arith, l)) j))

        -- y was taken out before
        pub passed : (w y' : ℕ) → Trying t.n t.N 32 c t.rack t.U t.a x v.node.0 w₀ w y → member w y ≡ true → y' ≤ t.n
            → ((k : ℕ) → y < k → k < y' → member b k ≡ false) → Trying t.n t.N 32 c t.rack t.U t.a x v.node.0 w₀ w y'
        passed w y' tried seen all none =
            skipped w y y' tried all
            (λ k l j. elim (cases_eq k y) [ inl q ↦ inl (ap (member w) q ∙ seen) | inr q ↦ inr (none k (omega (arith, l, q)) j) ])

  -- the seats of x, one after the other
  module _ (list : List Seat) (is : list ≡ list_at seats x) where
    pub own-seat : (i : ℕ) → i < length list → Own t.rack t.U x (seat_in list i)
    own-seat i h =
        let l : i < length (list_at seats x) = subst (λ z. i < length z) is h in
        subst (λ z. Own t.rack t.U x (seat_in z i)) (sym is) (g.sits.usable x inside i l, g.sits.racked x inside i l)

  pub offered : (v : Seat) → Offers c (list_at seats x) at v → Settled t.rack t.U t.n c (set at x (Some v))
  offered v o = opened v (subst (Own t.rack t.U x) (sym o.0.2) (own-seat (list_at seats x) refl o.0.0 o.0.1)) o.1

-- the call for one seat of x
pub same : (t : Told) (c : ℕ) (seats : List (List Seat)) (at at₁ : List (Option Seat)) (x w₀ w : ℕ) → Grounded t c seats at x w₀ → at₁ ≡ at
    → Grown t.n t.N 32 c t.rack t.U w₀ w → Grounded t c seats at₁ x w
same t c seats at at₁ x w₀ w g e h = record {
  sits = g.sits;
  tells = subst (λ z. Tells t.rack t.a t.n z x) (sym e) g.tells;
  ready = steps.ready-same t.n t.N 32 c t.rack t.U t.a x w₀ w g.ready t.a refl h;
}

-- the blocks are where they sit
abbrev pub as_told : (ℕ → ℕ) → (ℕ → ℕ → Bool) → ℕ → ℕ → List (Option Seat) → Told
as_told rack U N n at = record { rack = rack; U = U; N = N; n = n; a = node_at at }

-- a search from x alone
module _ (rack : ℕ → ℕ) (U : ℕ → ℕ → Bool) (N n c : ℕ) (seats : List (List Seat)) (at : List (Option Seat)) (x : ℕ) (p : Placing rack U N n c seats at x)
    (m : ℕ) (e : m ≡ bit_or 0 (2 ^ x)) where
  pub first : Grounded (as_told rack U N n at) c seats at x m
  first = record { sits = p.sits; tells = p.tells; ready = steps.ready-first n N 32 c rack U (node_at at) x m p.sized p.partial e }

  pub found : (w : ℕ) → Failed n N 32 c rack U (node_at at) x m w → Crowding rack U N n c w
  found w f = record {
    within = steps.found_within n N 32 c rack U (node_at at) x m w first.ready e f;
    crowded = steps.found-crowded n N 32 c rack U (node_at at) x m w first.ready e f;
    least = steps.found-least n N 32 c rack U (node_at at) x m w first.ready e f;
  }

-- one block more
module _ (rack : ℕ → ℕ) (U : ℕ → ℕ → Bool) (N n c : ℕ) (seats : List (List Seat)) (sized : Sized N 32 rack U) (sits : Sits rack U n seats) where
  sits-front : (m : ℕ) → m ≤ n → Sits rack U m seats
  sits-front m l = record {
    long = omega (arith, l, sits.long);
    usable = λ i h. sits.usable i (omega arith);
    racked = λ i h. sits.racked i (omega arith);
    listed = λ i h. sits.listed i (omega arith);
  }

  pub none-sits : (at : List (Option Seat)) → ((k : ℕ) → seat_of at k ≡ None) → Settled rack U 0 c at
  unfolding count_to
  none-sits at nobody = record {
    complete = record { usable = λ i l. absurd (omega arith); distinct = λ i j l. absurd (omega arith); spread = λ r. omega arith };
    tells = record { told = λ k l. absurd (omega arith); only = λ k q e. absurd (some-none q (sym (nobody k) ∙ e)) };
  }

  pub one_more : (at : List (Option Seat)) (m : ℕ) → m < n → Settled rack U m c at → Placing rack U N (m + 1) c seats at m
  one_more at m l h = record {
    sized = sized;
    sits = sits-front (m + 1) (omega arith);
    tells = record {
      told = λ k j ne. h.tells.told k (omega (arith, j, ne)) (λ e. ne e);
      only = λ k q e. let o = h.tells.only k q e in (omega (arith, o.0), o.1);
    };
    partial = rw add-one (partial-next m c rack U (node_at at) h.complete);
  }

  pub refused : (m w : ℕ) → m < n → Crowding rack U N (m + 1) c w → Refusing rack U N n c w
  refused m w l h = record {
    none = λ a p. against n a (omega arith) p;
    last = λ k e a p.
        elim (cases_eq k m) [
          | inl q ↦ subst (λ j. Crowding rack U N j c w) (ap (λ j. j + 1) (sym q) ∙ sym e) h
          | inr q ↦ absurd (against k a (omega arith) p)
        ];
  }
    where
      against : (k : ℕ) (a : ℕ → ℕ) → m + 1 ≤ k → Complete k c rack U a → ⊥
      against k a g p =
          omega (arith, h.crowded, uncrowded (m + 1) N 32 c rack U sized a (complete-front (m + 1) k c rack U a g p) (member w))

set-alone : (seats : List (List Seat)) → length seats ≤ 17 → (rack : ℕ → ℕ) (U : ℕ → ℕ → Bool) (n x none s : ℕ) → Sits rack U n seats → x < n → none ≡ 0
    → s ≡ cond (ltb x 32) (bit_or none (2 ^ x)) none → s ≡ bit_or 0 (2 ^ x)
set-alone seats few rack U n x none s h l e f = with-below none x s (omega (arith, h.long, few, l)) f ∙ ap (λ z. bit_or z (2 ^ x)) e

-- what a search from x alone tells: s is the set of x, which was made of none
pub alone : (c : ℕ) (seats : List (List Seat)) → length seats ≤ 17 → (at : List (Option Seat)) (x none s : ℕ) → none ≡ 0
    → s ≡ cond (ltb x 32) (bit_or none (2 ^ x)) none → (r : Result (Unit {0}) ℕ) (at' : List (Option Seat))
    → MatchResult r (λ _. Seated c seats at x s at') (Unseated c seats at x s at')
    → MatchResult r (λ _. Extended c seats at x at') (Stuck c seats at x at')
alone c seats few at x none s e f (Ok u) at' h = λ rack U N n p. h (as_told rack U N n at) (first rack U N n c seats at x p s (set-alone seats few rack U n x none s p.sits p.partial.inside e f))
alone c seats few at x none s e f (Err w) at' h = (
  h.same,
  λ rack U N n p.
      found rack U N n c seats at x p s (set-alone seats few rack U n x none s p.sits p.partial.inside e f) w
      (h.failed (as_told rack U N n at) (first rack U N n c seats at x p s (set-alone seats few rack U n x none s p.sits p.partial.inside e f))),
)
