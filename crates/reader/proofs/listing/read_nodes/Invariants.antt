-- What is left has the listing's faults, and with its places those in the table are the listing's.
use Rattle.std.proofs.Common.{◌≡◌, ◌<◌, ◌≤◌, List, ◌++◌, length, take, drop}
use Rattle.std.specs.List.{AllByRecursion}
use Rattle.site.specs.Site.{Place}
use Rattle.text.specs.Rows.{left_of}
use Rattle.reader.specs.Listings.{NodesFault, NodesText, past_part, past_number}
use Rattle.reader.proofs.RowLaws.{Same}
use Rattle.reader.proofs.listing.read_nodes.Given as goal

abbrev pub invariant-loop-line : goal.invariant-loop-line
invariant-loop-line l =
    Same (NodesFault l.order l.lines.number l.count (left_of l.lines)) (NodesFault l.order l.initial.lines.number 0 (left_of l.initial.lines))
    × ((ps : List Place) → NodesText l.order l.count (left_of l.lines) ps → NodesText l.order 0 (left_of l.initial.lines) (take l.count l.table ++ ps))
    × (drop l.count l.table ≡ drop l.count l.initial.table)
    × (past_part (left_of l.lines) ≡ past_part (left_of l.initial.lines))
    × (past_number l.lines.number (left_of l.lines) ≡ past_number l.initial.lines.number (left_of l.initial.lines))
    × (l.count ≤ 256)
    × (length l.table ≡ 256)
    × AllByRecursion (λ p. p.0.0 < 32) (take l.count l.table)

abbrev pub decreases-loop-line : goal.decreases-loop-line
decreases-loop-line l = length (left_of l.lines)
