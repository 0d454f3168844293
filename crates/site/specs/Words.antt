-- A word as a set of numbers.
use Rattle.std.specs.Prelude.{ℕ, ◌/◌, ◌%◌, ◌^◌, Bool, ◌==◌}

-- whether bit i of w is 1, the lowest being bit 0
abbrev pub member : ℕ → ℕ → Bool
member w i = w / 2 ^ i % 2 == 1
