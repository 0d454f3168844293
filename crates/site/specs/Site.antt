-- What a site map means: its nodes in order of their numbers, each with its rack and its keep mark.
use Rattle.std.specs.Prelude.{ℕ, ◌<◌, ◌≤◌, Bool, true, false, List, length, Some, None, Option}
use Rattle.std.specs.List.{AllByRecursion, slice_get}
use Rattle.site.specs.declared.Rack.{Rack}
use Rattle.site.specs.declared.Mark.{Mark}
use Rattle.site.specs.declared.Mark.TheVariants.{Yes, No}

-- a node's rack, and whether it may keep a block after encoding
abbrev pub Place : Type 0
Place = Rack × Mark

abbrev pub Site : Type 0
Site = List Place

-- what a map answers of node v: its place, or absent past the last node
abbrev pub place : Site → ℕ → Option Place
place s v = slice_get s v

-- a node's rack; past the last node 32, which is no rack
abbrev pub node_rack : Site → ℕ → ℕ
node_rack s v = elim (place s v) [ None ↦ 32 | Some p ↦ p.0.0 ]

abbrev pub is_yes : Mark → Bool
is_yes Yes = true
is_yes No = false

-- whether a node may keep a block; none past the last may
abbrev pub keeps : Site → ℕ → Bool
keeps s v = elim (place s v) [ None ↦ false | Some p ↦ is_yes p.1 ]

-- what every map shows of its meaning
pub record Limits (s : Site) : Type 0 where
  pub few : length s ≤ 256
  pub racked : AllByRecursion (λ p. p.0.0 < 32) s
