-- The limits of a code.
use Rattle.std.specs.Prelude.{ℕ, ◌-◌, ◌<◌, ◌≤◌}

abbrev pub Within : ℕ → ℕ → ℕ → Type 0
Within n k c = (1 ≤ k) × (k ≤ 16) × (k < n) × (n ≤ 24) × (1 ≤ c) × (c ≤ n - k)
