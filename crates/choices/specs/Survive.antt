-- What a plan keeps, and what stands of it after losses.
use Rattle.std.specs.Prelude.{◌≡◌, ℕ, ◌+◌, ◌-◌, ◌*◌, ◌<◌, ◌≤◌, true, not, ◌&&◌, List, [], ◌++◌, length, count_by, ◌≢◌, count_ones, nat_eq}
use Rattle.site.specs.Words.{member}
use Rattle.site.specs.Site.{Site, Limits, keeps, node_rack}
use Rattle.choices.specs.Sums.{count_to}
use Rattle.choices.specs.Room.{space}
use Rattle.choices.specs.Choice.{Copies, Choice, has, every, apart, choices}
use Rattle.choices.specs.Plan.{round, parity, planned}

-- nodes that are all different, all marked yes, at most c in any rack
pub record Spaced (s : Site) (c : ℕ) (p : List ℕ) : Type 0 where
  pub differ : apart p ≡ true
  pub kept : every (keeps s) p ≡ true
  pub spread : (r : ℕ) → count_by (λ v. nat_eq (node_rack s v) r) p ≤ c

-- where the site has space for n blocks, the parity nodes never run out, whichever choice was kept and wherever the visit starts
abbrev pub ParityFull : Type 0
ParityFull = (s : Site) (n k c : ℕ) (bs : List Copies) (vs : List ℕ) (start : ℕ) → Limits s → n ≤ space s c → k ≤ n → length bs ≡ k → Choice s c bs vs
    → (length (parity s c (n - k) vs (round s start)) ≡ n - k) × Spaced s c (vs ++ parity s c (n - k) vs (round s start))

-- so a stripe that has a choice has a plan of n nodes
abbrev pub PlannedFull : Type 0
PlannedFull = (s : Site) (n k c : ℕ) (bs : List Copies) (start : ℕ) → Limits s → n ≤ space s c → k ≤ n → length bs ≡ k → (choices s c bs ≢ [])
    → (length (planned s n k c bs start) ≡ n) × Spaced s c (planned s n k c bs start)

-- how many planned blocks stand when some nodes, and the racks of w, are lost
abbrev pub stand : Site → List ℕ → List ℕ → ℕ → ℕ
stand s p lost w = count_by (λ v. not (has v lost) && not (member w (node_rack s v))) p

-- how many nodes of the site a list of lost nodes names
abbrev pub distinct : Site → List ℕ → ℕ
distinct s lost = count_to (length s) (λ v. has v lost)

-- with each lost node goes at most one planned block, and with each lost rack at most c
abbrev pub LossesBounded : Type 0
LossesBounded = (s : Site) (c : ℕ) (p lost : List ℕ) (w : ℕ) → Limits s → apart p ≡ true → ((v : ℕ) → has v p ≡ true → v < length s)
    → ((r : ℕ) → count_by (λ v. nat_eq (node_rack s v) r) p ≤ c) → length p ≤ stand s p lost w + distinct s lost + c * count_ones w

-- so k blocks of a plan stand while the losses are within n − k
abbrev pub PlanSurvives : Type 0
PlanSurvives = (s : Site) (n k c : ℕ) (bs : List Copies) (start : ℕ) (lost : List ℕ) (w : ℕ) → Limits s → n ≤ space s c → k ≤ n → length bs ≡ k
    → (choices s c bs ≢ []) → distinct s lost + c * count_ones w ≤ n - k → k ≤ stand s (planned s n k c bs start) lost w
