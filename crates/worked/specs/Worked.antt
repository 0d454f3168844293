-- Worked examples, computed from the rules. A regular site is spoken of as racks by nodes, a code as n, k, c.
use Rattle.std.specs.Prelude.{◌≡◌, List, [], ◌∷◌, ◌++◌, Some, None}
use Rattle.site.specs.Site.{Site}
use Rattle.site.specs.Maps.{regular, target}
use Rattle.choices.specs.Room.{space}
use Rattle.choices.specs.Tight.{LeastTight}
use Rattle.store.specs.Stripes.{Call, set_up, offer, seal, start, stripe, plan_of}
use Rattle.store.specs.Refusals.{refused_by}
use Rattle.store.specs.Ledger.{ledger}
use Rattle.choices.specs.Survive.{stand}
use Rattle.store.specs.Promise.{together}

-- 4 by 2, all racks targets
abbrev pub four_by_two : Site
four_by_two = target 15 (regular 4 2)

-- two blocks, each with its later copies in rack 1
abbrev pub two_in : List Call
two_in = set_up 4 3 1 ∷ offer 101 (0 ∷ 2 ∷ 3 ∷ []) ∷ offer 102 (1 ∷ 2 ∷ 3 ∷ []) ∷ []

-- a third like them is refused, one with copies elsewhere is not, and the stripe is sealed
abbrev pub three_in : List Call
three_in = two_in ++ (offer 103 (0 ∷ 3 ∷ 2 ∷ []) ∷ offer 103 (1 ∷ 4 ∷ 5 ∷ []) ∷ seal 0 6 ∷ [])

-- a block that fits only because an earlier one can move
abbrev pub mover : List Call
mover = set_up 4 3 1 ∷ offer 201 (0 ∷ 2 ∷ []) ∷ offer 202 (1 ∷ 8 ∷ []) ∷ offer 203 (0 ∷ 4 ∷ []) ∷ seal 0 0 ∷ []

-- a stripe with one block that is in nobody's way
abbrev pub crowded : List Call
crowded = set_up 6 4 2 ∷ offer 7 (1 ∷ 6 ∷ []) ∷ offer 8 (0 ∷ 3 ∷ []) ∷ offer 9 (0 ∷ 3 ∷ []) ∷ []

pub record Worked : Type 0 where
  -- one block in each of four racks
  pub four_racks : (space (regular 4 2) 1 ≡ 4) × (refused_by (regular 4 2) start (set_up 4 3 1) ≡ None)
  -- there is no rack for a fifth
  pub five_in_four : refused_by (regular 4 2) start (set_up 5 4 1) ≡ Some 2
  -- only the target racks have space: three blocks in each of two
  pub two_targets : let s = target 3 (regular 6 3) in (space s 3 ≡ 6) × (refused_by s start (set_up 6 3 3) ≡ None)
  -- and at most two blocks in each are too few
  pub two_targets_short : let s = target 3 (regular 6 3) in (space s 2 ≡ 4) × (refused_by s start (set_up 6 3 2) ≡ Some 2)
  -- the first block gives up its first copy, so that the others fit
  pub moved_aside : plan_of (stripe (ledger (target 15 (regular 5 2)) mover) 0) ≡ 2 ∷ 1 ∷ 4 ∷ 6 ∷ []
  -- a block with no copy in a target rack crowds itself out
  pub outside_the_targets : let s = target 15 (regular 6 2) in let l = ledger s (set_up 4 3 1 ∷ []) in
      (refused_by s l (offer 301 (8 ∷ 10 ∷ [])) ≡ Some 24) × LeastTight s 1 (together s l (8 ∷ 10 ∷ [])) 1
  -- three blocks for two nodes; the first block is none of them
  pub three_for_two_nodes : let s = regular 3 3 in let l = ledger s crowded in
      (refused_by s l (offer 10 (0 ∷ 3 ∷ [])) ≡ Some 24) × LeastTight s 2 (together s l (0 ∷ 3 ∷ [])) 14
  -- three blocks for two racks
  pub three_for_two_racks : let l = ledger four_by_two two_in in
      (refused_by four_by_two l (offer 103 (0 ∷ 3 ∷ 2 ∷ [])) ≡ Some 24) × LeastTight four_by_two 1 (together four_by_two l (0 ∷ 3 ∷ 2 ∷ [])) 7
  -- the refused offer left no trace, and the parity block goes to the rack that is left
  pub one_in_each_rack : plan_of (stripe (ledger four_by_two three_in) 0) ≡ 0 ∷ 2 ∷ 4 ∷ 6 ∷ []
  -- a lost node that the plan does not use
  pub lost_beside_the_plan : stand four_by_two (plan_of (stripe (ledger four_by_two three_in) 0)) (1 ∷ []) 0 ≡ 4
  -- a node lost twice over, by itself and with its rack, is one loss
  pub lost_twice_over : stand four_by_two (plan_of (stripe (ledger four_by_two three_in) 0)) (2 ∷ []) 2 ≡ 3
