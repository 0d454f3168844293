-- The names of the fields so far differ; with those of what is left they decide the order.
use Rattle.std.proofs.Common.{◌≡◌, true, length, take}
use Rattle.text.specs.Orders.{texts, indices, distinct, complete, order_of}
use Rattle.text.specs.Parts.{parts_left}
use Rattle.text.specs.Pieces.{parted}
use Rattle.text.proofs.NodeListLaws.{after}
use Rattle.text.proofs.names.name_order.Given as goal

abbrev pub invariant-loop-i : goal.invariant-loop-i
invariant-loop-i g l =
    (length l.order ≡ g.row.N)
    × (distinct (take l.i l.order) ≡ true)
    × (complete g.row.N (after (take l.i l.order) (indices (texts l.names) (parts_left l.fields))) ≡ order_of g.row.N (texts l.names) (parted 44 l.line))
