-- The nodes of a sealed stripe: one kept copy for each block, then the parity nodes.
use Rattle.std.specs.Prelude.{ℕ, zero, suc, ◌-◌, Bool, cond, not, ◌&&◌, List, [], ◌∷◌, ◌++◌, length, nat_lt}
use Rattle.std.specs.List.{range_with_len}
use Rattle.site.specs.Site.{Site, keeps}
use Rattle.choices.specs.Choice.{Copies, has, beside, choices}

-- the nodes from the start node to the last, then from node 0
abbrev pub round : Site → ℕ → List ℕ
round s start = range_with_len start (length s - start) ++ range_with_len 0 start

-- marked yes, not taken yet, and its rack has fewer than c taken nodes
abbrev pub free : Site → ℕ → List ℕ → ℕ → Bool
free s c taken v = keeps s v && (not (has v taken) && nat_lt (beside s v taken) c)

-- up to `left` parity nodes out of those still to be visited, beside the nodes taken so far, the kept copies among them
abbrev pub parity : Site → ℕ → ℕ → List ℕ → List ℕ → List ℕ
parity s c zero taken vs = []
parity s c (suc left) taken [] = []
parity s c (suc left) taken (v ∷ vs) =
    cond (free s c taken v) (v ∷ parity s c left (taken ++ (v ∷ [])) vs) (parity s c (suc left) taken vs)

abbrev pub first_of : List (List ℕ) → List ℕ
first_of [] = []
first_of (x ∷ xs) = x

-- the plan of a stripe of k blocks: the first choice, then n − k parity nodes
abbrev pub planned : Site → ℕ → ℕ → ℕ → List Copies → ℕ → List ℕ
planned s n k c bs start =
    let kept = first_of (choices s c bs) in
    kept ++ parity s c (n - k) kept (round s start)
