-- Lists resolved to seats: one node more, one list more, and what the seats then tell of the site.
use Rattle.std.proofs.Common.{◌≡◌, ℕ, zero, suc, ◌<◌, ◌≤◌, Bool, true, eqb, List, [], ◌∷◌, ◌++◌, map, length, get_or, filter, Result, sym, refl, ap, ◌∙◌, subst, inl, inr, arith}
use Rattle.std.proofs.lemmas.List.{map_push, length-map, get_or-map}
use Rattle.std.proofs.lemmas.Bool.{and_parts, and_from, cases_Bool, or_cases, eqb-true, false≢true}
use Rattle.fixed.proofs.Pushes.{Pushed, pushed}
use Rattle.site.specs.Site.{Site, keeps, node_rack}
use Rattle.choices.specs.Choice.{Copies, has}
use Rattle.choices.specs.Hall.{usable}
use Rattle.choices.proofs.Nodes.{has-place, has-at}
use Rattle.placement.specs.declared.seat.Seat.{Seat}
use Rattle.placement.specs.Seats.{list_at, seat_in, blank_seat, Sits}
use Rattle.placement.specs.Resolved.{seat_at, seated, Resolved, Seating}

-- one list more
resolved-push : (s : Site) (bs : List Copies) (seats : List (List Seat)) (b : Copies) (q : List Seat) → Resolved s bs seats → q ≡ seated s b
    → Resolved s (bs ++ b ∷ []) (seats ++ q ∷ [])
resolved-push s bs seats b q r e = ap (λ z. z ++ q ∷ []) r ∙ ap (λ z. map (seated s) bs ++ z ∷ []) e ∙ sym (map_push (seated s) bs b)

pub resolved-few : (s : Site) (bs : List Copies) (seats : List (List Seat)) (n : ℕ) → Resolved s bs seats → length seats ≤ n → length bs ≤ n
resolved-few s bs seats n r l = omega (arith, ap length r, length-map bs (seated s), l)

-- a stripe's lists and an offered one
pub resolved_with : {E : Type 0} (s : Site) (bs : List Copies) (b : Copies) (seats pushed' slice : List (List Seat)) (q : List Seat) (r : Result (Unit {0}) E)
    → Resolved s bs seats → length seats ≤ 16 → q ≡ seated s b → Pushed 17 seats pushed' q r → slice ≡ pushed' → Resolved s (bs ++ b ∷ []) slice
resolved_with s bs b seats pushed' slice q r h few e p f = f ∙ pushed 17 seats pushed' q r p (omega (arith, few)) ∙ resolved-push s bs seats b q h e

-- lists cut down to their yes nodes
kept-has : (q : ℕ → Bool) (b : List ℕ) (v : ℕ) → has v (filter q b) ≡ true → q v ≡ true
kept-has q [] v h = absurd (false≢true h)
kept-has q (w ∷ b) v h =
    elim (cases_Bool (q w)) [
      | inl t ↦
          elim (or_cases (eqb v w) (has v (filter q b)) (rw t at h)) [ inl e ↦ rw (eqb-true v w e) t | inr e ↦ kept-has q b v e ]
      | inr t ↦ kept-has q b v (rw t at h)
    ]

kept-lists : (q : ℕ → Bool) (bs : List Copies) (i v : ℕ) → has v (get_or (map (filter q) bs) i []) ≡ true → q v ≡ true
kept-lists q [] i v h = absurd (false≢true h)
kept-lists q (b ∷ bs) zero v h = kept-has q b v h
kept-lists q (b ∷ bs) (suc i) v h = kept-lists q bs i v h

seated-lists : (s : Site) (bs : List Copies) → map (seated s) bs ≡ map (map (seat_at s)) (map (filter (keeps s)) bs)
seated-lists s [] = refl
seated-lists s (b ∷ bs) = ap (λ z. seated s b ∷ z) (seated-lists s bs)

pub seating : (s : Site) (bs : List Copies) (seats : List (List Seat)) → length bs ≤ 17 → Resolved s bs seats → Seating s (map (filter (keeps s)) bs) seats
seating s bs seats l r = record {
  same = r ∙ seated-lists s bs;
  few = rw length-map l;
  kept = kept-lists (keeps s) bs;
}

module _ (s : Site) (ds : List Copies) (seats : List (List Seat)) (g : Seating s ds seats) where
  pub seats-long : length seats ≡ length ds
  seats-long = ap length g.same ∙ length-map ds (map (seat_at s))

  pub seats-at : (i : ℕ) → i < length ds → list_at seats i ≡ map (seat_at s) (get_or ds i [])
  seats-at i l = ap (λ z. list_at z i) g.same ∙ get_or-map (map (seat_at s)) ds i [] [] l

  pub seats-count : (i : ℕ) → i < length ds → length (list_at seats i) ≡ length (get_or ds i [])
  seats-count i l = ap length (seats-at i l) ∙ length-map (get_or ds i []) (seat_at s)

  pub seat-read : (i k : ℕ) → i < length ds → k < length (get_or ds i []) → seat_in (list_at seats i) k ≡ seat_at s (get_or (get_or ds i []) k 0)
  seat-read i k l h = ap (λ z. seat_in z k) (seats-at i l) ∙ get_or-map (seat_at s) (get_or ds i []) k 0 blank_seat h

  -- the seats tell of the site's racks, and of which nodes are usable
  pub sits-of : Sits (node_rack s) (usable s ds) (length ds) seats
  sits-of = record {
    long = omega (arith, seats-long);
    usable = λ i l k h.
        let m : k < length (get_or ds i []) = omega (arith, seats-count i l) in
        let a = has-at (get_or ds i []) k m in
        subst (λ z. usable s ds i z.node.0 ≡ true) (sym (seat-read i k l m)) (and_from (keeps s (get_or (get_or ds i []) k 0)) _ (g.kept i _ a) a);
    racked = λ i l k h.
        let m : k < length (get_or ds i []) = omega (arith, seats-count i l) in
        subst (λ z. node_rack s z.node.0 ≡ z.rack.0) (sym (seat-read i k l m)) refl;
    listed = λ i l v u.
        let p = has-place v (get_or ds i []) (and_parts (keeps s v) _ u).1 in
        (p.0, omega (arith, p.1, seats-count i l), ap (λ z. z.node.0) (seat-read i p.0 l p.1) ∙ p.2);
  }
