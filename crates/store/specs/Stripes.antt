-- What a ledger holds, and the calls that are made on it.
use Rattle.std.specs.Prelude.{ℕ, Bool, true, false, ◌||◌, List, [], ◌∷◌, map, replicate, None, Option, slice_index_or}
use Rattle.site.specs.Site.{Site, node_rack}
use Rattle.choices.specs.Choice.{Copies, has}

-- k data blocks, n blocks with parity, at most c of a stripe in one rack
pub record Code : Type 0 where
  pub n : ℕ
  pub k : ℕ
  pub c : ℕ

pub record Block : Type 0 where
  pub number : ℕ
  pub copies : Copies

-- a sealed stripe has its plan: the nodes of its n blocks
pub data Stripe : Type 0 where
  empty : Stripe
  filling : List Block → Stripe
  sealed : List Block → List ℕ → Stripe

pub record Ledger : Type 0 where
  pub code : Option Code
  pub stripes : List Stripe

abbrev pub start : Ledger
start = record { code = None; stripes = replicate 32 empty }

-- set-up n k c; offer a block's number and list; seal a rack's stripe from a start node; plan and deletions of a rack, with so many rows;
-- standing of a rack with some lost nodes and a word of lost racks; release and abandon a rack's stripe
pub data Call : Type 0 where
  set_up : ℕ → ℕ → ℕ → Call
  offer : ℕ → List ℕ → Call
  seal : ℕ → ℕ → Call
  plan : ℕ → ℕ → Call
  deletions : ℕ → ℕ → Call
  standing : ℕ → List ℕ → ℕ → Call
  release : ℕ → Call
  abandon : ℕ → Call

abbrev pub blocks_of : Stripe → List Block
blocks_of empty = []
blocks_of (filling bs) = bs
blocks_of (sealed bs p) = bs

abbrev pub plan_of : Stripe → List ℕ
plan_of empty = []
plan_of (filling bs) = []
plan_of (sealed bs p) = p

abbrev pub is_sealed : Stripe → Bool
is_sealed empty = false
is_sealed (filling bs) = false
is_sealed (sealed bs p) = true

abbrev pub is_empty : Stripe → Bool
is_empty empty = true
is_empty (filling bs) = false
is_empty (sealed bs p) = false

abbrev pub stripe : Ledger → ℕ → Stripe
stripe l r = slice_index_or l.stripes r empty

abbrev pub copies_of : List Block → List Copies
copies_of bs = map (λ b. b.copies) bs

-- whether some stripe holds a block of this number
abbrev pub holds : List Stripe → ℕ → Bool
holds [] b = false
holds (s ∷ ss) b = has b (map (λ x. x.number) (blocks_of s)) || holds ss b

-- the rack of the first copy
abbrev pub core : Site → List ℕ → ℕ
core s [] = 32
core s (v ∷ vs) = node_rack s v

abbrev pub rest : List ℕ → List ℕ
rest [] = []
rest (v ∷ vs) = vs
