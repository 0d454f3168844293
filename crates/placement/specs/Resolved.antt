-- Lists of copies as seats.
use Rattle.std.specs.Prelude.{◌≡◌, ℕ, ◌≤◌, true, List, [], ◌∷◌, ◌++◌, map, length, filter, slice_index_or}
use Rattle.site.specs.Site.{Site, keeps, node_rack}
use Rattle.choices.specs.Choice.{Copies, has}
use Rattle.choices.specs.Hall.{SomeChoice}
use Rattle.choices.specs.Tight.{LeastTight}
use Rattle.placement.specs.declared.seat.Seat.{Seat}

abbrev pub seat_at : Site → ℕ → Seat
seat_at s v = record { node = record { 0 = v }; rack = record { 0 = node_rack s v } }

-- the yes nodes of a list, in list order, with their racks
abbrev pub seated : Site → Copies → List Seat
seated s b = map (seat_at s) (filter (keeps s) b)

-- of each list of bs its seats
abbrev pub Resolved : Site → List Copies → List (List Seat) → Type 0
Resolved s bs seats = seats ≡ map (seated s) bs

-- the same of lists that have yes nodes only
pub record Seating (s : Site) (ds : List Copies) (seats : List (List Seat)) : Type 0 where
  pub same : seats ≡ map (map (seat_at s)) ds
  pub few : length ds ≤ 17
  pub kept : (i v : ℕ) → has v (slice_index_or ds i []) ≡ true → keeps s v ≡ true

-- the blocks bs and one more have no choice; and where bs have one, w is the least tight set of all
abbrev pub CrowdedOut : Site → ℕ → List Copies → Copies → ℕ → Type 0
CrowdedOut s c bs b w = (SomeChoice s c (bs ++ b ∷ []) → ⊥) × (SomeChoice s c bs → LeastTight s c (bs ++ b ∷ []) w)
