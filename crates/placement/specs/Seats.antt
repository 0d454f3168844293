-- Seats, and what they tell of a site: racks by node, and which block can use which node. Where the blocks sit is a seat for each that
-- has one.
use Rattle.std.specs.Prelude.{◌≡◌, ℕ, ◌+◌, ◌/◌, ◌%◌, ◌^◌, ◌<◌, ◌≤◌, Bool, true, false, ◌⊎◌, List, [], length, Some, None, Option, ◌==◌, ◌≢◌, bit_or, slice_index, slice_index_or}
use Rattle.site.specs.Words.{member}
use Rattle.choices.specs.Sums.{count_to}
use Rattle.choices.specs.Search.{Sized, Partial, Ready, Complete, Crowded, Subset, Failed, Blocked, unseen}
use Rattle.placement.specs.declared.seat.Seat.{Seat}

-- what stands in places that are not used
abbrev pub blank_seat : Seat
blank_seat = record { node = record { 0 = 0 }; rack = record { 0 = 0 } }

-- the seats of block i, and the node of one of some seats
abbrev pub list_at : List (List Seat) → ℕ → List Seat
list_at seats i = slice_index_or seats i []

abbrev pub seat_in : List Seat → ℕ → Seat
seat_in list k = slice_index_or list k blank_seat

-- the seat of block k, if it sits, and its node
abbrev pub seat_of : List (Option Seat) → ℕ → Option Seat
seat_of at k = slice_index_or at k None

abbrev pub node_of : Option Seat → ℕ
node_of None = 0
node_of (Some v) = v.node.0

abbrev pub node_at : List (Option Seat) → ℕ → ℕ
node_at at k = node_of (seat_of at k)

-- whether a seat is at the node u
abbrev pub lies_at : ℕ → Option Seat → Bool
lies_at u None = false
lies_at u (Some v) = v.node.0 == u

-- whether a seat is in the rack r, of those below 32
abbrev pub lies_in : ℕ → Option Seat → Bool
lies_in r None = false
lies_in r (Some v) = v.rack.0 % 32 == r

-- whether block k sits in the rack of the seat v
abbrev pub shares : List (Option Seat) → Seat → ℕ → Bool
shares at v k = lies_in (v.rack.0 % 32) (seat_of at k)

-- whether the node u is in one of eight sets of 32 nodes, and the node of a seat, if there is one
abbrev pub noted : List ℕ → ℕ → Bool
noted sets u = member (slice_index sets (u / 32 % 8)) (u % 32)

abbrev pub has_noted : List ℕ → Option Seat → Bool
has_noted sets None = true
has_noted sets (Some v) = noted sets v.node.0

-- no block in the rack of the seat v has its node
abbrev pub Unheld : List (Option Seat) → Seat → Type 0
Unheld at v = (k : ℕ) → shares at v k ≡ true → node_at at k ≢ v.node.0

-- the block in that rack that has its node, if one does
abbrev pub Holder : List (Option Seat) → Seat → Option ℕ → Type 0
Holder at v None = Unheld at v
Holder at v (Some y) = (y < 32) × (shares at v y ≡ true) × (node_at at y ≡ v.node.0)

-- which blocks of that rack keep the seat v from a block that is out: none, the one that holds its node, or all where they are c
abbrev pub Blockers : ℕ → List (Option Seat) → Seat → Option ℕ → Type 0
Blockers c at v None = Unheld at v × (count_to 32 (shares at v) < c)
Blockers c at v (Some b) =
    ((y : ℕ) × (shares at v y ≡ true) × (node_at at y ≡ v.node.0) × (b ≡ bit_or 0 (2 ^ y)))
    ⊎ (Unheld at v × (c ≤ count_to 32 (shares at v)) × ((k : ℕ) → member b k ≡ shares at v k))

-- v is one of some seats, and no block keeps it from a block that is out
abbrev pub Offers : ℕ → List Seat → List (Option Seat) → Seat → Type 0
Offers c list at v = ((k : ℕ) × (k < length list) × (v ≡ seat_in list k)) × Blockers c at v None

-- the seats of the first n blocks are the nodes that U says, in the racks that `rack` says
pub record Sits (rack : ℕ → ℕ) (U : ℕ → ℕ → Bool) (n : ℕ) (seats : List (List Seat)) : Type 0 where
  pub long : n ≤ length seats
  pub usable : (i : ℕ) → i < n → (k : ℕ) → k < length (list_at seats i) → U i (seat_in (list_at seats i) k).node.0 ≡ true
  pub racked : (i : ℕ) → i < n → (k : ℕ) → k < length (list_at seats i) → rack (seat_in (list_at seats i) k).node.0 ≡ (seat_in (list_at seats i) k).rack.0
  pub listed : (i : ℕ) → i < n → (v : ℕ) → U i v ≡ true → (k : ℕ) × (k < length (list_at seats i)) × ((seat_in (list_at seats i) k).node.0 ≡ v)

-- of the first n blocks those but x sit, and no other; block k at the node a k, and in the rack that `rack` says
pub record Tells (rack : ℕ → ℕ) (a : ℕ → ℕ) (n : ℕ) (at : List (Option Seat)) (x : ℕ) : Type 0 where
  pub told : (k : ℕ) → k < n → (k ≢ x) → (q : Seat) × (seat_of at k ≡ Some q) × (q.node.0 ≡ a k) × (rack (a k) ≡ q.rack.0)
  pub only : (k : ℕ) (q : Seat) → seat_of at k ≡ Some q → (k < n) × (k ≢ x)

-- what the seats tell of: which node is in which rack, which block can use which node, how many nodes and blocks there are, and at which
-- node each block is
pub record Told : Type 0 where
  pub rack : ℕ → ℕ
  pub U : ℕ → ℕ → Bool
  pub N : ℕ
  pub n : ℕ
  pub a : ℕ → ℕ

-- what the search for a seat of x begins with
pub record Grounded (t : Told) (c : ℕ) (seats : List (List Seat)) (at : List (Option Seat)) (x w : ℕ) : Type 0 where
  pub sits : Sits t.rack t.U t.n seats
  pub tells : Tells t.rack t.a t.n at x
  pub ready : Ready t.n t.N 32 c t.rack t.U t.a x w

-- every block sits
pub record Settled (rack : ℕ → ℕ) (U : ℕ → ℕ → Bool) (n c : ℕ) (at : List (Option Seat)) : Type 0 where
  pub complete : Complete n c rack U (node_at at)
  pub tells : Tells rack (node_at at) n at n

-- The search's outcomes, whatever the seats tell of. A seat was found for x:
abbrev pub Seated : ℕ → List (List Seat) → List (Option Seat) → ℕ → ℕ → List (Option Seat) → Type 0
Seated c seats at x w at' = (t : Told) → Grounded t c seats at x w → Settled t.rack t.U t.n c at'

-- none was found, all sit as before, and the set of blocks taken out grew from w to w'
pub record Unseated (c : ℕ) (seats : List (List Seat)) (at : List (Option Seat)) (x w : ℕ) (at' : List (Option Seat)) (w' : ℕ) : Type 0 where
  pub same : at' ≡ at
  pub fewer : unseen 32 w' ≤ unseen 32 w
  pub failed : (t : Told) → Grounded t c seats at x w → Failed t.n t.N 32 c t.rack t.U t.a x w w'

-- the seat v is one of block x
abbrev pub Own : (ℕ → ℕ) → (ℕ → ℕ → Bool) → ℕ → Seat → Type 0
Own rack U x v = (U x v.node.0 ≡ true) × (rack v.node.0 ≡ v.rack.0)

-- the same for one seat v of x
abbrev pub Freed : ℕ → List (List Seat) → List (Option Seat) → ℕ → Seat → ℕ → List (Option Seat) → Type 0
Freed c seats at x v w at' = (t : Told) → Grounded t c seats at x w → Own t.rack t.U x v → Settled t.rack t.U t.n c at'

pub record Barred (c : ℕ) (seats : List (List Seat)) (at : List (Option Seat)) (x : ℕ) (v : Seat) (w : ℕ) (at' : List (Option Seat)) (w' : ℕ) : Type 0 where
  pub same : at' ≡ at
  pub fewer : unseen 32 w' ≤ unseen 32 w
  pub blocked : (t : Told) → Grounded t c seats at x w → Own t.rack t.U x v → Blocked t.n t.N 32 c t.rack t.U t.a x v.node.0 w w'

-- every block but x sits, for racks and uses that the seats tell of
pub record Placing (rack : ℕ → ℕ) (U : ℕ → ℕ → Bool) (N n c : ℕ) (seats : List (List Seat)) (at : List (Option Seat)) (x : ℕ) : Type 0 where
  pub sized : Sized N 32 rack U
  pub sits : Sits rack U n seats
  pub tells : Tells rack (node_at at) n at x
  pub partial : Partial n c rack U (node_at at) x

-- w is the least crowded set of the first n blocks
pub record Crowding (rack : ℕ → ℕ) (U : ℕ → ℕ → Bool) (N n c w : ℕ) : Type 0 where
  pub within : w < 2 ^ n
  pub crowded : Crowded n N 32 c rack U (member w)
  pub least : (T : ℕ → Bool) → Crowded n N 32 c rack U T → Subset w T

-- a search from x alone found it a seat
abbrev pub Extended : ℕ → List (List Seat) → List (Option Seat) → ℕ → List (Option Seat) → Type 0
Extended c seats at x at' =
    (rack : ℕ → ℕ) (U : ℕ → ℕ → Bool) (N n : ℕ) → Placing rack U N n c seats at x → Settled rack U n c at'

-- or it found none, and all sit as before: w is the least crowded set
abbrev pub Stuck : ℕ → List (List Seat) → List (Option Seat) → ℕ → List (Option Seat) → ℕ → Type 0
Stuck c seats at x at' w =
    (at' ≡ at) × ((rack : ℕ → ℕ) (U : ℕ → ℕ → Bool) (N n : ℕ) → Placing rack U N n c seats at x → Crowding rack U N n c w)

-- the first n blocks cannot all sit; and where those before the last can, w is their least crowded set
pub record Refusing (rack : ℕ → ℕ) (U : ℕ → ℕ → Bool) (N n c w : ℕ) : Type 0 where
  pub none : (a : ℕ → ℕ) → Complete n c rack U a → ⊥
  pub last : (m : ℕ) → n ≡ m + 1 → (a : ℕ → ℕ) → Complete m c rack U a → Crowding rack U N n c w

-- all blocks sit, or they cannot
abbrev pub AllSit : ℕ → List (List Seat) → List (Option Seat) → Type 0
AllSit c seats at =
    (rack : ℕ → ℕ) (U : ℕ → ℕ → Bool) (N : ℕ) → Sized N 32 rack U → Sits rack U (length seats) seats → Settled rack U (length seats) c at

abbrev pub NotAllSit : ℕ → List (List Seat) → ℕ → Type 0
NotAllSit c seats w =
    (rack : ℕ → ℕ) (U : ℕ → ℕ → Bool) (N : ℕ) → Sized N 32 rack U → Sits rack U (length seats) seats → Refusing rack U N (length seats) c w
