-- What a placing of all seats, or its failure, tells of the blocks' choices and tight sets.
use Rattle.std.proofs.Common.{◌≡◌, ℕ, ◌≤◌, true, List, [], ◌∷◌, ◌++◌, map, length, get_or, Ok, Err, filter, Option, Result, sym, refl, ap, ◌∙◌, subst, arith, MatchResult}
use Rattle.std.specs.List.{range_with_len}
use Rattle.std.proofs.lemmas.List.{length-map, map-append, length_push}
use Rattle.site.specs.Site.{Site, Limits, keeps, node_rack}
use Rattle.choices.specs.Choice.{Copies, choices}
use Rattle.choices.specs.Hall.{usable, SomeChoice}
use Rattle.choices.specs.Tight.{LeastTight}
use Rattle.choices.specs.Search.{Complete}
use Rattle.choices.proofs.Head.{empty-none, none-empty}
use Rattle.choices.proofs.Moves.{placed_same}
use Rattle.choices.proofs.Seats.{seat-choice, seat-choice-from, seat-least-from}
use Rattle.choices.proofs.Sites.{sized, choice-by, complete-of, least-of, usable-front}
use Rattle.placement.specs.declared.seat.Seat.{Seat}
use Rattle.placement.specs.Seats.{node_at, Sits, Settled, Crowding, Refusing, AllSit, NotAllSit}
use Rattle.placement.specs.Resolved.{Resolved, CrowdedOut}
use Rattle.placement.proofs.Resolves.{seating, seats-long, sits-of}

module _ (s : Site) (limits : Limits s) (c : ℕ) where
  module _ (bs : List Copies) (seats : List (List Seat)) (few : length bs ≤ 17) (r : Resolved s bs seats) where
    same : length (map (filter (keeps s)) bs) ≡ length seats
    same = sym (seats-long s (map (filter (keeps s)) bs) seats (seating s bs seats few r))

    sits : Sits (node_rack s) (usable s (map (filter (keeps s)) bs)) (length seats) seats
    sits = subst (λ m. Sits (node_rack s) (usable s (map (filter (keeps s)) bs)) m seats) same (sits-of s (map (filter (keeps s)) bs) seats (seating s bs seats few r))

    pub all_sit : (at : List _) → AllSit c seats at → Settled (node_rack s) (usable s (map (filter (keeps s)) bs)) (length (map (filter (keeps s)) bs)) c at
    all_sit at f =
        subst (λ m. Settled (node_rack s) (usable s (map (filter (keeps s)) bs)) m c at) (sym same)
        (f (node_rack s) (usable s (map (filter (keeps s)) bs)) (length s) (sized s c (map (filter (keeps s)) bs) limits) sits)

    pub admitted : (at : List _) → AllSit c seats at → SomeChoice s c bs
    admitted at f = (
      map (node_at at) (range_with_len 0 (length (map (filter (keeps s)) bs))),
      seat-choice-from s c bs _ (choice-by s c (map (filter (keeps s)) bs) (node_at at) (all_sit at f).complete),
    )

    module _ (w : ℕ) (f : NotAllSit c seats w) where
      refusing : Refusing (node_rack s) (usable s (map (filter (keeps s)) bs)) (length s) (length seats) c w
      refusing = f (node_rack s) (usable s (map (filter (keeps s)) bs)) (length s) (sized s c (map (filter (keeps s)) bs) limits) sits

      pub refused : SomeChoice s c bs → ⊥
      refused h =
          refusing.none (λ i. get_or h.0 i 0)
          (subst (λ m. Complete m c (node_rack s) (usable s (map (filter (keeps s)) bs)) (λ i. get_or h.0 i 0)) same
          (complete-of s c (map (filter (keeps s)) bs) h.0 (seat-choice s c bs h.0 h.1)))

      crowding : Crowding (node_rack s) (usable s (map (filter (keeps s)) bs)) (length s) (length seats) c w → LeastTight s c bs w
      crowding k =
          seat-least-from s c bs w
          (let k' : Crowding (node_rack s) (usable s (map (filter (keeps s)) bs)) (length s) (length (map (filter (keeps s)) bs)) c w =
          subst (λ m. Crowding (node_rack s) (usable s (map (filter (keeps s)) bs)) (length s) m c w) (sym same) k in
          least-of s c (map (filter (keeps s)) bs) w k'.within k'.crowded k'.least)

      -- where the blocks before the last have a choice
      pub least : (os : List Copies) (b : Copies) → bs ≡ os ++ b ∷ [] → SomeChoice s c os → LeastTight s c bs w
      least os b e h =
          let m : length (map (filter (keeps s)) os) ≡ length os = length-map os (filter (keeps s)) in
          let d : map (filter (keeps s)) bs ≡ map (filter (keeps s)) os ++ map (filter (keeps s)) (b ∷ []) =
          ap (map (filter (keeps s))) e ∙ map-append (filter (keeps s)) os (b ∷ []) in
          let p : Complete (length (map (filter (keeps s)) os)) c (node_rack s) (usable s (map (filter (keeps s)) os)) (λ i. get_or h.0 i 0) =
          complete-of s c (map (filter (keeps s)) os) h.0 (seat-choice s c os h.0 h.1) in
          let q : Complete (length (map (filter (keeps s)) os)) c (node_rack s) (usable s (map (filter (keeps s)) bs)) (λ i. get_or h.0 i 0) =
          placed_same (length (map (filter (keeps s)) os)) c (node_rack s) (node_rack s) (usable s (map (filter (keeps s)) os)) (usable s (map (filter (keeps s)) bs))
          (λ _. true) (λ i. get_or h.0 i 0) (λ i. get_or h.0 i 0)
          (λ i k _ u. (
            subst (λ z. usable s z i (get_or h.0 i 0) ≡ true) (sym d)
                (usable-front s c (map (filter (keeps s)) os) (map (filter (keeps s)) (b ∷ [])) i (get_or h.0 i 0) k ∙ u),
            refl,
          ))
          (λ i _ _. refl) p in
          crowding
          (refusing.last (length (map (filter (keeps s)) os)) (omega (arith, m, same, length-map bs (filter (keeps s)), ap length e, length_push os b)) (λ i. get_or h.0 i 0) q)

  -- a stripe's blocks bs and an offered one
  pub offered : (bs : List Copies) (b : Copies) (seats : List (List Seat)) → length bs ≤ 16 → Resolved s (bs ++ b ∷ []) seats → (r : Result (Unit {0}) ℕ)
      → MatchResult r (λ _. (at : List _) × AllSit c seats at) (NotAllSit c seats)
      → MatchResult r (λ _. SomeChoice s c (bs ++ b ∷ [])) (λ w. CrowdedOut s c bs b w)
  offered bs b seats few all (Ok u) h = admitted (bs ++ b ∷ []) seats (omega (arith, length_push bs b)) all h.0 h.1
  offered bs b seats few all (Err w) h = (
    refused (bs ++ b ∷ []) seats (omega (arith, length_push bs b)) all w h,
    least (bs ++ b ∷ []) seats (omega (arith, length_push bs b)) all w h bs b refl,
  )

-- where the blocks sit, if they do
pub sat-there : (c : ℕ) (seats : List (List Seat)) (at : List (Option Seat)) (r : Result (Unit {0}) ℕ) → MatchResult r (λ _. AllSit c seats at) (NotAllSit c seats)
    → MatchResult r (λ _. (at : List _) × AllSit c seats at) (NotAllSit c seats)
sat-there c seats at (Ok u) h = (at, h)
sat-there c seats at (Err w) h = h

-- the same of the list of choices
module _ (s : Site) (c : ℕ) where
  pub some-listed : (bs : List Copies) → SomeChoice s c bs → choices s c bs ≡ [] → ⊥
  some-listed bs h e = empty-none s c bs e h.0 h.1

  pub none-listed : (bs : List Copies) → (SomeChoice s c bs → ⊥) → choices s c bs ≡ []
  none-listed bs h = none-empty s c bs (λ vs k. h (vs, k))

  pub listed : (bs : List Copies) (b : Copies) (r : Result (Unit {0}) ℕ) → MatchResult r (λ _. SomeChoice s c (bs ++ b ∷ [])) (λ w. CrowdedOut s c bs b w)
      → MatchResult r (λ _. choices s c (bs ++ b ∷ []) ≡ [] → ⊥) (λ _. choices s c (bs ++ b ∷ []) ≡ [])
  listed bs b (Ok u) h = some-listed (bs ++ b ∷ []) h
  listed bs b (Err w) h = none-listed (bs ++ b ∷ []) h.0
