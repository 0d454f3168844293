-- Some numbers were read so far, and are kept; with those of what is left they are the whole list.
use Rattle.std.proofs.Common.{◌≡◌, ℕ, ◌+◌, ◌≤◌, List, length, take}
use Rattle.text.specs.NodeLists.{numbers_in, node_list_in}
use Rattle.text.specs.Parts.{parts_left}
use Rattle.text.proofs.NodeListLaws.{after}
use Rattle.text.proofs.nodes.node_list.Given as goal

abbrev pub invariant-loop-word : goal.invariant-loop-word
invariant-loop-word l =
    (vs : List ℕ)
    × (l.nodes ≡ take 8 vs)
    × (l.len ≡ length vs)
    × (length vs + length (parts_left l.word-iterator) ≤ length l.bytes + 1)
    × (after vs (numbers_in 65535 (parts_left l.word-iterator)) ≡ node_list_in l.bytes)
