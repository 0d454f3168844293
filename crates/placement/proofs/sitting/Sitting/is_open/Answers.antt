use Rattle.std.proofs.Common.{sym, ap, ◌∙◌, arith}
use Rattle.std.proofs.lemmas.Bool.{false≢true, not-true}
use Rattle.site.specs.Words.{member}
use Rattle.choices.proofs.Words.{ones-count, none_in}
use Rattle.choices.proofs.Finite.{count_same}
use Rattle.placement.proofs.Sets.{unnoted}
use Rattle.placement.proofs.sitting.Sitting.is_open.Goals as goal

pub returns-then-from-eq0 : goal.returns-then-from-eq0
returns-then-from-eq0 c = λ t. (
  λ k s h. false≢true (sym (none_in k) ∙ (ap (λ w. member w k) (sym c.if-from-eq0.true ∙ c.from.ensures) ∙ (c.in_rack-there.ensures k ∙ s))),
  omega (arith, c.if-len-c.true, c.len.ensures.value, ones-count 32 c.in_rack-there.result c.len.ensures.fits, count_same 32 _ _ (λ k _. c.in_rack-there.ensures k)),
)

pub returns-else-from-eq0 : goal.returns-else-from-eq0
returns-else-from-eq0 c = λ t. (
  λ k s h. unnoted c.args.self.now.nodes _ c.args.v.node.0 _ s (c.args.self.now.known k) (sym c.is_noted.ensures ∙ not-true _ t) h,
  omega (arith, c.if-len-c.true, c.len.ensures.value, ones-count 32 c.in_rack-there.result c.len.ensures.fits, count_same 32 _ _ (λ k _. c.in_rack-there.ensures k)),
)
