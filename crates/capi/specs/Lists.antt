-- Lists in flat arrays: eight entries to a block, of which its length says how many are listed.
use Rattle.std.specs.Prelude.{◌≡◌, ℕ, ◌*◌, ◌<◌, ◌≤◌, List, map, length, take, drop, Ok, Err, Result, slice_index}
use Rattle.std.specs.List.{range_with_len}
use Rattle.choices.specs.Choice.{Copies}
use Rattle.blocks.specs.Lists.{lists_of}
use Rattle.blocks.specs.declared.block.Block.{Block}
use Rattle.capi.specs.declared.refused.Refused.{Refused}
use Rattle.capi.specs.declared.refused.Refused.TheVariants.{OutsideLimits, ListLength, OutsideRegular, NoChoice, NotFull, Arrays, NoPlan}

abbrev pub list_at : List ℕ → List ℕ → ℕ → Copies
list_at vs ns i = take (slice_index ns i) (drop (8 * i) vs)

abbrev pub lists_in : List ℕ → List ℕ → List Copies
lists_in vs ns = map (list_at vs ns) (range_with_len 0 (length ns))

-- up to 16 lists, with eight entries to each
abbrev pub Shaped : List ℕ → List ℕ → Type 0
Shaped vs ns = (length ns ≤ 16) × (length vs ≡ 8 * length ns)

-- a block has 2 to 8 copies
abbrev pub Sized : ℕ → Type 0
Sized n = (2 ≤ n) × (n ≤ 8)

abbrev pub AllSized : List ℕ → Type 0
AllSized ns = (i : ℕ) → i < length ns → Sized (slice_index ns i)

-- what reading into a list gives: the list's blocks, or why there are none
abbrev pub read_into : Result (Unit {0}) Refused → List Block → Result (List Block) Refused
read_into (Ok u) bs = Ok bs
read_into (Err e) bs = Err e

-- the blocks of the lists, or the first that is wrong with the arrays
abbrev pub Read : List ℕ → List ℕ → Result (List Block) Refused → Type 0
Read vs ns (Ok bs) = Shaped vs ns × AllSized ns × (lists_of bs ≡ lists_in vs ns)
Read vs ns (Err Arrays) = Shaped vs ns → ⊥
Read vs ns (Err ListLength) = Shaped vs ns × (AllSized ns → ⊥)
Read vs ns (Err OutsideLimits) = ⊥
Read vs ns (Err OutsideRegular) = ⊥
Read vs ns (Err (NoChoice w)) = ⊥
Read vs ns (Err NotFull) = ⊥
Read vs ns (Err NoPlan) = ⊥
