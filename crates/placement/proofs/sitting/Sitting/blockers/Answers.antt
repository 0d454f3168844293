use Rattle.std.proofs.Common.{inr, arith}
use Rattle.choices.proofs.Words.{ones-count}
use Rattle.choices.proofs.Finite.{count_same}
use Rattle.placement.proofs.sitting.Sitting.blockers.Goals as goal

pub returns-then-len-c : goal.returns-then-len-c
returns-then-len-c c = (
  c.in_default.ensures,
  omega (arith, c.if-len-c.true, c.len.ensures.value, ones-count 32 c.in_rack-there.result c.len.ensures.fits, count_same 32 _ _ (λ k _. c.in_rack-there.ensures k)),
)

pub returns : goal.returns
returns c = inr (
  c.in_default.ensures,
  omega (arith, c.if-len-c.false, c.len.ensures.value, ones-count 32 c.in_rack-there.result c.len.ensures.fits, count_same 32 _ _ (λ k _. c.in_rack-there.ensures k)),
  c.in_rack-there.ensures,
)
