-- What holds while the blocks are narrowed to their first choice.
use Rattle.std.specs.Prelude.{◌≡◌, ℕ, ◌<◌, List, [], Option, map, length, slice_index, slice_index_or}
use Rattle.std.specs.List.{range_with_len}
use Rattle.site.specs.Site.{Site, Limits, node_rack}
use Rattle.choices.specs.Choice.{Copies, Choice}
use Rattle.choices.specs.Hall.{usable}
use Rattle.choices.specs.Order.{Narrowing, narrow}
use Rattle.placement.specs.declared.seat.Seat.{Seat}
use Rattle.placement.specs.declared.first.Settling.{Settling}
use Rattle.placement.specs.Seats.{node_at, Settled}
use Rattle.placement.specs.Resolved.{seat_at, Seating}

-- the nodes of the first n blocks
abbrev pub placed : ℕ → List (Option Seat) → List ℕ
placed n at = map (node_at at) (range_with_len 0 n)

-- the seats are those of a site's lists, and all sit
pub record Standing (s : Site) (c : ℕ) (ds : List Copies) (p : Settling) : Type 0 where
  pub limits : Limits s
  pub most : p.c ≡ c
  pub seating : Seating s ds p.seats
  pub settled : Settled (node_rack s) (usable s ds) (length ds) c p.sat.at

-- and the lists are bs narrowed before block i
pub record Narrows (s : Site) (c : ℕ) (bs : List Copies) (i : ℕ) (p : Settling) : Type 0 where
  pub lists : List Copies
  pub standing : Standing s c lists p
  pub narrowing : Narrowing s c bs lists i (placed (length lists) p.sat.at)

-- v is the seat at place j of block i
abbrev pub Its : Site → List Copies → ℕ → ℕ → Seat → Type 0
Its s ds i j v = (j < length (slice_index_or ds i [])) × (v ≡ seat_at s (slice_index (slice_index_or ds i []) j))

-- block i was left its seat v alone, and all sit
abbrev pub Kept : ℕ → Seat → Settling → Settling → Type 0
Kept i v p q = (s : Site) (c : ℕ) (ds : List Copies) (j : ℕ) → Standing s c ds p → Its s ds i j v → Standing s c (narrow ds i j) q

-- with it they have no choice, and the lists and who sits where are as before
abbrev pub Vain : ℕ → Seat → Settling → Settling → Type 0
Vain i v p q =
    (q.seats ≡ p.seats) × (q.sat.at ≡ p.sat.at)
    × ((s : Site) (c : ℕ) (ds : List Copies) → Standing s c ds p
    → Standing s c ds q × ((j : ℕ) → Its s ds i j v → (vs : List ℕ) → Choice s c (narrow ds i j) vs → ⊥))
