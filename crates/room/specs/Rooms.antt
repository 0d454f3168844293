-- How many yes nodes each rack has.
use Rattle.std.specs.Prelude.{◌≡◌, ℕ, ◌<◌, Bool, ◌&&◌, List, length, ◌==◌, slice_index}
use Rattle.site.specs.Site.{Site, keeps, node_rack}
use Rattle.choices.specs.Sums.{count_to}

abbrev pub yes_in : Site → ℕ → ℕ → Bool
yes_in s r v = keeps s v && node_rack s v == r

-- xs has, for each rack, how many of the nodes below n are yes nodes there
pub record Tallied (s : Site) (n : ℕ) (xs : List ℕ) : Type 0 where
  pub long : length xs ≡ 32
  pub counts : (r : ℕ) → r < 32 → slice_index xs r ≡ count_to n (yes_in s r)
