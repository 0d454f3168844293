-- The meanings of the three maps keep the limits.
use Rattle.std.specs.Prelude.{◌≡◌, ℕ, zero, suc, ◌+◌, ◌*◌, ◌/◌, ◌<◌, ◌≤◌, Bool, true, false, cond, List, [], ◌∷◌, length, nat_lt, refl}
use Rattle.std.proofs.Common.{arith}
use Rattle.std.proofs.lemmas.List.{length-map}
use Rattle.std.specs.List.{range_with_len, AllByRecursion}
use Rattle.std.proofs.lemmas.Bool.{ltb-true}
use Rattle.std.proofs.ByRecursion.{All-map, All-from_get_or}
use Rattle.std.proofs.lemmas.List.FromFn.{length-map-range_with_len, length-range_with_len, get_or-range_with_len}
use Rattle.std.proofs.lemmas.Nat.{div_below}
use Rattle.site.specs.declared.Mark.TheVariants.{Yes}
use Rattle.site.specs.Site.{Site, Place, Limits}
use Rattle.site.specs.Maps.{Fit, window, listed, regular, target, targeted}

pub window-few : (n : ℕ) (ps : List Place) → length (window n ps) ≤ n
window-few zero ps = omega arith
window-few (suc n) [] = omega arith
window-few (suc n) (p ∷ ps) =
    elim (nat_lt p.0.0 32) as (λ b. length (cond b (p ∷ window n ps) []) ≤ suc n)
    [ true ↦ omega (arith, window-few n ps) | false ↦ omega arith ]

pub window-racked : (n : ℕ) (ps : List Place) → AllByRecursion (λ p. p.0.0 < 32) (window n ps)
window-racked zero ps = tt
window-racked (suc n) [] = tt
window-racked (suc n) (p ∷ ps) =
    let P : Bool → Type 0 = λ b. nat_lt p.0.0 32 ≡ b → AllByRecursion (λ q. q.0.0 < 32) (cond b (p ∷ window n ps) []) in
    let both : (b : Bool) → P b = λ b. elim b as P [ true ↦ (λ q. (ltb-true p.0.0 32 q, window-racked n ps)) | false ↦ (λ q. tt) ] in
    both (nat_lt p.0.0 32) refl

pub listed-limits : (ps : List Place) → Limits (listed ps)
listed-limits ps = record { few = window-few 256 ps; racked = window-racked 256 ps }

pub target-limits : (w : ℕ) (s : Site) → Limits s → Limits (target w s)
target-limits w s l = record {
  few = rw length-map l.few;
  racked = All-map (λ p. p.0.0 < 32) (targeted w) s l.racked;
}

pub regular-limits : (racks each : ℕ) → Fit racks each → Limits (regular racks each)
regular-limits racks each f = record {
  few = rw length-map-range_with_len f.4;
  racked = All-map (λ p. p.0.0 < 32) (λ v. (record { 0 = v / each }, Yes)) (range_with_len 0 (racks * each))
      (All-from_get_or (λ v. v / each < 32) (range_with_len 0 (racks * each)) 0
      (λ i h. let k : i < racks * each = omega (arith, length-range_with_len 0 (racks * each)) in
      let e : 0 + i ≡ i = omega arith in
      rw (get_or-range_with_len, e) (omega (arith, div_below i each racks f.2 k, f.1))));
}
