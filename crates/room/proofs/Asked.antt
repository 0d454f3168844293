-- What an answer to the node question tells of the node.
use Rattle.std.proofs.Common.{◌≡◌, ℕ, ◌<◌, Some, None, Option, sym, ap}
use Rattle.site.specs.declared.Rack.{Rack}
use Rattle.site.specs.declared.Mark.{Mark}
use Rattle.site.specs.Site.{Site, Place, place, node_rack, Limits}
use Rattle.site.proofs.Places.{all-nth}

rack_in : Option Place → ℕ
rack_in o = elim o [ None ↦ 32 | Some p ↦ p.0.0 ]

module _ (s : Site) (v : ℕ) (k : Rack) (m : Mark) (e : Some (k, m) ≡ place s v) where
  pub rack-at : node_rack s v ≡ k.0
  unfolding rack_in
  rack-at = sym (ap rack_in e)

  -- a map's rack is one of the 32
  pub racked : Limits s → k.0 < 32
  racked l = all-nth (λ q. q.0.0 < 32) s v (k, m) l.racked (sym e)

pub rack-off : (s : Site) (v : ℕ) → None ≡ place s v → node_rack s v ≡ 32
unfolding rack_in
rack-off s v e = sym (ap rack_in e)
