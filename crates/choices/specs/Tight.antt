-- Which blocks crowd out an offered one. A set of blocks is a word: bit i is for the block at place i from 0.
use Rattle.std.specs.Prelude.{◌≡◌, ℕ, ◌^◌, ◌<◌, true, ◌&&◌, List, [], length, count_ones, slice_index_or}
use Rattle.site.specs.Words.{member}
use Rattle.site.specs.Site.{Site}
use Rattle.choices.specs.Sums.{any_to}
use Rattle.choices.specs.Room.{room}
use Rattle.choices.specs.Choice.{Copies, has}

-- how many blocks the yes nodes that some block of the set lists can keep
abbrev pub reach : Site → ℕ → List Copies → ℕ → ℕ
reach s c bs w = room s c (λ v. any_to (length bs) (λ i. member w i && has v (slice_index_or bs i [])))

-- a set of the blocks whose reach is below its size
pub record Tight (s : Site) (c : ℕ) (bs : List Copies) (w : ℕ) : Type 0 where
  pub within : w < 2 ^ length bs
  pub short : reach s c bs w < count_ones w

-- and that is contained in every other
pub record LeastTight (s : Site) (c : ℕ) (bs : List Copies) (w : ℕ) : Type 0 where
  pub tight : Tight s c bs w
  pub least : (u : ℕ) → Tight s c bs u → (i : ℕ) → member w i ≡ true → member u i ≡ true
