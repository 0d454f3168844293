-- The meanings of the three maps.
use Rattle.std.specs.Prelude.{ℕ, zero, suc, ◌*◌, ◌/◌, ◌≤◌, Bool, true, false, cond, List, [], ◌∷◌, map, nat_lt}
use Rattle.std.specs.List.{range_with_len}
use Rattle.site.specs.declared.Mark.{Mark}
use Rattle.site.specs.declared.Mark.TheVariants.{Yes, No}
use Rattle.site.specs.Words.{member}
use Rattle.site.specs.Site.{Place, Site}

-- the limits of a regular map
abbrev pub Fit : ℕ → ℕ → Type 0
Fit racks each = (1 ≤ racks) × (racks ≤ 32) × (1 ≤ each) × (each ≤ 256) × (racks * each ≤ 256)

-- node v is in rack v / each, and all marks are yes
abbrev pub regular : ℕ → ℕ → Site
regular racks each = map (λ v. (record { 0 = v / each }, Yes)) (range_with_len 0 (racks * each))

-- a table as far as its window reaches: at most `most` entries, and none from the first whose rack is above 31 on
abbrev pub window : ℕ → List Place → List Place
window zero ps = []
window (suc most) [] = []
window (suc most) (p ∷ ps) = cond (nat_lt p.0.0 32) (p ∷ window most ps) []

abbrev pub listed : List Place → Site
listed ps = window 256 ps

-- a mark where its rack is a target, and no elsewhere
abbrev pub marked : Mark → Bool → Mark
marked m true = m
marked m false = No

abbrev pub targeted : ℕ → Place → Place
targeted w p = (p.0, marked p.1 (member w p.0.0))

-- yes where it is yes below and the rack's bit is 1
abbrev pub target : ℕ → Site → Site
target w s = map (targeted w) s
