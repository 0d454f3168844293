-- What is left of the line has the faults of the line.
use Rattle.std.proofs.Common.{drop}
use Rattle.text.specs.Cells.{cells_left, end_of}
use Rattle.reader.specs.Rows.{FaultAt}
use Rattle.reader.specs.ValueRows.{FaultOf}
use Rattle.reader.proofs.RowLaws.{Same}
use Rattle.reader.proofs.row.Row.check.Given as goal

abbrev pub invariant-loop-name : goal.invariant-loop-name
invariant-loop-name l =
    Same (FaultAt l.form l.lexer.place.line (end_of l.lexer) (drop l.name-index l.self.order.now) (cells_left l.lexer)) (FaultOf l.self l.form)
