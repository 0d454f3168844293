-- The map of a sheet's site.
use Rattle.std.specs.Prelude.{◌≡◌}
use Rattle.site.specs.Site.{Site, Limits}
use Rattle.site.specs.Maps.{Fit, regular, listed}
use Rattle.site.specs.Limits.{regular-limits, listed-limits}
use Rattle.reader.specs.declared.maps.SiteKind.{SiteKind}
use Rattle.reader.specs.declared.maps.SiteKind.TheVariants.{Regular, Listed}
use Rattle.reader.specs.declared.maps.SheetMap.{SheetMap}
use Rattle.reader.specs.declared.sites.SiteValues.{SiteValues}
use Rattle.reader.specs.declared.sites.SiteValues.TheVariants as values

-- a regular site by its map, a listing by the table's meaning
abbrev pub kind_meaning : SiteKind → Site → Site
kind_meaning (Regular m) table = regular m.racks m.each
kind_meaning Listed table = table

abbrev pub map_meaning : SheetMap → Site
map_meaning m = kind_meaning m.kind (listed m.table.entries.now)

kind-limits : (k : SiteKind) (s : Site) → Limits s → Limits (kind_meaning k s)
kind-limits (Regular m) s l = regular-limits m.racks m.each m.fits
kind-limits Listed s l = l

pub map-limits : (m : SheetMap) → Limits (map_meaning m)
map-limits m = kind-limits m.kind (listed m.table.entries.now) (listed-limits m.table.entries.now)

-- the kind of a site that was read
abbrev pub KindOf : SiteValues → SiteKind → Type 0
KindOf (values.Regular racks each) (Regular m) = Fit racks each × (regular m.racks m.each ≡ regular racks each)
KindOf (values.Regular racks each) Listed = ⊥
KindOf (values.Listed nodes) (Regular m) = ⊥
KindOf (values.Listed nodes) Listed = Unit {0}

-- its two numbers fit no map
abbrev pub NoMap : SiteValues → Type 0
NoMap (values.Regular racks each) = Fit racks each → ⊥
NoMap (values.Listed nodes) = ⊥
