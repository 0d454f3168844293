use Rattle.std.proofs.Common.{◌≡◌, [], ℕ, ◌<◌, map, get_or}
use Rattle.std.specs.List.{range_with_len}
use Rattle.blocks.specs.Lists.{lists_of}
use Rattle.capi.specs.Lists.{list_at, Sized}
use Rattle.capi.proofs.lists.Lists.read.Given as goal

abbrev pub invariant-loop-i : goal.invariant-loop-i
invariant-loop-i l =
    (l.initial.blocks ≡ []) → (lists_of l.blocks ≡ map (list_at l.self.nodes.now l.self.lens.now) (range_with_len 0 l.i))
    × ((j : ℕ) → j < l.i → Sized (get_or l.self.lens.now j 0))
