use Rattle.std.proofs.Common.{◌∙◌, arith}
use Rattle.placement.proofs.Resolves.{seats-long}
use Rattle.placement.proofs.Narrowed.{narrows-none, narrows-all}
use Rattle.placement.proofs.first.Settling.first.Goals as goal

pub loop-i-init : goal.loop-i-init
loop-i-init c = λ s k bs h. narrows-none s k bs _ h

pub returns-clause-value : goal.returns-clause-value
returns-clause-value c = λ s k bs h.
    c.nodes.ensures.value
    ∙ narrows-all s k bs c.loop-i.i c.loop-i.self (c.loop-i.invariant s k bs h)
    (omega (arith, c.loop-i-test.false, c.loop-i.auto.i-end, c.len-i-end.ensures.value, seats-long s bs c.args.self.now.seats h.seating))

pub returns-clause-few : goal.returns-clause-few
returns-clause-few c = c.nodes.ensures.few
