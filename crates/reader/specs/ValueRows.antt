-- What a value line says under the names of its part: a line that is too long for any sheet as far as one reaches.
use Rattle.std.specs.Prelude.{ℕ, List, take, Option}
use Rattle.site.specs.Site.{Place}
use Rattle.text.specs.Pieces.{parted}
use Rattle.text.specs.declared.fault.Fault.{Fault}
use Rattle.reader.specs.declared.form.Form.{Form}
use Rattle.reader.specs.declared.row.Row.{Row}
use Rattle.reader.specs.Rows.{RowFault, named}
use Rattle.reader.specs.Listings.{NodeRead}

abbrev pub FaultOf : Row → Form → Fault → Type 0
FaultOf row form f = RowFault form row.order.now row.line.number (take 65536 row.line.bytes.now) f

abbrev pub field_of : Row → ℕ → Option (List ℕ)
field_of row name = named row.order.now name (parted 44 (take 65536 row.line.bytes.now))

-- the line of a node after so many others says this place
abbrev pub NodeOf : Row → ℕ → Place → Type 0
NodeOf row count p = NodeRead row.order.now row.line.number count (take 65536 row.line.bytes.now) p
