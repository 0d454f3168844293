-- How many blocks some nodes of a site can keep, at most c in a rack.
use Rattle.std.specs.Prelude.{ℕ, min, Bool, true, ◌&&◌, length, ◌==◌}
use Rattle.site.specs.Site.{Site, keeps, node_rack}
use Rattle.choices.specs.Sums.{sum_to, count_to}

-- over the racks, the sum of the lesser of c and the number of the rack's keep nodes that pass
unfoldable pub room : Site → ℕ → (ℕ → Bool) → ℕ
room s c f = sum_to 32 (λ r. min c (count_to (length s) (λ v. f v && (keeps s v && node_rack s v == r))))

-- how many blocks a site can keep at all
abbrev pub space : Site → ℕ → ℕ
space s c = room s c (λ v. true)
