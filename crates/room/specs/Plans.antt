-- A plan that takes parity nodes, and how many of its nodes each rack has.
use Rattle.std.specs.Prelude.{◌≡◌, ℕ, ◌-◌, ◌<◌, List, ◌++◌, length, count_by, nat_eq, slice_index}
use Rattle.site.specs.Site.{Site, node_rack}
use Rattle.choices.specs.Plan.{parity}
use Rattle.blocks.specs.Lists.{node_numbers}
use Rattle.room.specs.declared.parity.Filling.{Filling}

-- a plan after its visit of some nodes, where it is to have n
abbrev pub after : Site → ℕ → ℕ → List ℕ → List ℕ → List ℕ
after s c n taken vs = taken ++ parity s c (n - length taken) taken vs

-- xs has, for each rack, how many of the taken nodes lie there
pub record Loads (s : Site) (taken xs : List ℕ) : Type 0 where
  pub long : length xs ≡ 32
  pub counts : (r : ℕ) → r < 32 → slice_index xs r ≡ count_by (λ w. nat_eq (node_rack s w) r) taken

-- the counts of a plan that takes nodes are those of the nodes that it has
abbrev pub Loaded : Site → Filling → Type 0
Loaded s p = Loads s (node_numbers p.nodes) p.loads

-- p, where it is to have n nodes, is q after its visit of the nodes vs
abbrev pub Visited : Site → ℕ → ℕ → Filling → List ℕ → Filling → Type 0
Visited s c n p vs q = (node_numbers q.nodes ≡ after s c n (node_numbers p.nodes) vs) × Loaded s q
