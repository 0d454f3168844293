-- The opening of a sheet: its code, its site, and the kind of its map.
use Rattle.std.specs.Prelude.{◌≡◌, ℕ, List, Ok, Err, Result}
use Rattle.site.specs.Site.{Place}
use Rattle.text.specs.Faults.{Least}
use Rattle.text.specs.declared.lines.Lines.{Lines}
use Rattle.reader.specs.declared.head.Head.{Head}
use Rattle.reader.specs.declared.opening.Opening.{Opening}
use Rattle.reader.specs.declared.opening.SiteFault.{SiteFault}
use Rattle.reader.specs.declared.opening.SiteFault.TheVariants.{Read, Refused}
use Rattle.reader.specs.Heads.{HeadFault, HeadRead}
use Rattle.reader.specs.SiteMaps.{KindOf, NoMap}

-- a sheet is opened; or the reader's earliest fault is told; or, where there is none, that the site's two numbers fit no
-- map, which is told at the site's value line
abbrev pub Opened : List ℕ → List Place → List Place → Lines → Result Opening SiteFault → Type 0
Opened sheet was table lines (Ok o) = HeadRead sheet o.head was table lines × KindOf o.head.site o.kind
Opened sheet was table lines (Err (Read f)) = Least (HeadFault sheet) f
Opened sheet was table lines (Err (Refused o line)) = (h : Head) × HeadRead sheet h was table lines × NoMap h.site × (line ≡ 5)
