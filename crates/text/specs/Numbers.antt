-- Numbers as a sheet writes them: in decimal, with no needless zero in front.
use Rattle.std.specs.Prelude.{◌≡◌, ℕ, ◌≤◌, Bool, cond, not, ◌&&◌, List, length, Some, None, decimal, Option, MatchOption, ◌==◌, ◌≢◌, nat_le, nat_lt, slice_index}
use Rattle.std.specs.Str.Parse.{digits_value}
use Rattle.std.specs.Str.{all_ascii_digits}

-- digits with no needless zero in front
abbrev pub plain : List ℕ → Bool
plain bs = not (length bs == 0) && (all_ascii_digits bs && not (slice_index bs 0 == 48 && nat_lt 1 (length bs)))

-- the bytes write a number up to the limit
abbrev pub is_number : ℕ → List ℕ → Bool
is_number limit bs = plain bs && nat_le (digits_value 10 bs) limit

abbrev pub number_in : ℕ → List ℕ → Option ℕ
number_in limit bs = cond (is_number limit bs) (Some (digits_value 10 bs)) None

-- the number up to the limit whose decimal text the bytes are, or that there is none
abbrev pub Numbered : ℕ → List ℕ → Option ℕ → Type 0
Numbered limit bs r = MatchOption r ((v : ℕ) → v ≤ limit → bs ≢ decimal v) (λ v. (v ≤ limit) × (bs ≡ decimal v))
