-- The members of a set, taken the lowest first.
use Rattle.std.specs.Prelude.{◌≡◌, ℕ, ◌^◌, ◌<◌, true, Some, None, Option, bit_xor}
use Rattle.std.specs.Int.Count.{count_trailing_zeros}
use Rattle.site.specs.Words.{member}

-- of the set w the lowest member is taken, if there is one, and the set w' is left
abbrev pub TakesLowest : ℕ → Option ℕ → ℕ → Type 0
TakesLowest w None w' = (w ≡ 0) × (w' ≡ 0)
TakesLowest w (Some y) w' =
    (y < 32) × (member w y ≡ true) × (y ≡ count_trailing_zeros 32 w) × (y < count_trailing_zeros 32 w') × (w' ≡ bit_xor w (2 ^ y))
