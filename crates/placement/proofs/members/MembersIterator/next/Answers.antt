use Rattle.std.proofs.Common.{◌≡◌, ℕ, ◌-◌, ◌*◌, ◌%◌, ◌^◌, ◌<◌, refl, ap, ◌∙◌, arith, mod-eq_of_lt, one-mul}
use lib.Bits.{bit_xor}
use borrow.Author.Numbers.{trailing_lt}
use lib.Count.{count_trailing_zeros}
use Rattle.std.proofs.lemmas.Nat.{pow_below}
use Rattle.choices.proofs.Words.{lowest-in, next-lowest}
use Rattle.placement.proofs.members.MembersIterator.next.Goals as goal

-- the bit of a set's lowest member
bit : (w : ℕ) → 0 < w → w < 2 ^ 32 → 1 * 2 ^ count_trailing_zeros 32 w % 2 ^ 32 ≡ 2 ^ count_trailing_zeros 32 w
bit w p r = ap (λ z. z % 2 ^ 32) (one-mul _) ∙ mod-eq_of_lt (pow_below _ 32 (trailing_lt 32 w p r))

fewer : (w : ℕ) → 0 < w → w < 2 ^ 32 → 32 - count_trailing_zeros 32 (bit_xor w (1 * 2 ^ count_trailing_zeros 32 w % 2 ^ 32)) < 32 - count_trailing_zeros 32 w
fewer w p r = rw (bit w p r) (omega (arith, next-lowest w p r, trailing_lt 32 w p r))

pub returns-clause-steps : goal.returns-clause-steps
returns-clause-steps c =
    let p : 0 < c.args.self.now.left = omega (arith, c.if-left-eq0.false) in
    let r : c.args.self.now.left < 2 ^ 32 = omega arith in
    (trailing_lt 32 _ p r, lowest-in 32 _ p r, refl, rw (bit _ p r) (next-lowest _ p r), ap (bit_xor c.args.self.now.left) (bit _ p r))

pub returns-clause-goes : goal.returns-clause-goes
returns-clause-goes c =
    let p : 0 < c.args.self.now.left = omega (arith, c.if-left-eq0.false) in
    let r : c.args.self.now.left < 2 ^ 32 = omega arith in
    record { on = λ _. (tt, tt, fewer _ p r); keeps = tt; rests = λ _. tt }
