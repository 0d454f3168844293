-- A word as a set of numbers.
use Rattle.std.proofs.Common.{◌≡◌, ℕ, ◌/◌, ◌^◌, ◌<◌, ◌≤◌, false, refl, arith, pow_mono}
use native.Mathlib.Nat.{div-eq_of_lt}
use Rattle.site.specs.Words.{member}

-- a word of 32 bits has no number from 32 on
pub no-bit : (w i : ℕ) → w < 2 ^ 32 → 32 ≤ i → member w i ≡ false
no-bit w i h k =
    let p : 2 ^ 32 ≤ 2 ^ i = pow_mono k in
    let q : w / 2 ^ i ≡ 0 = div-eq_of_lt (omega (arith, h, p)) in
    rw q refl
