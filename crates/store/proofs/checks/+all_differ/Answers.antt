use Rattle.std.proofs.Common.{not, ◌&&◌, sym, ap, ◌∙◌}
use Rattle.choices.specs.Choice.{apart}
use Rattle.blocks.specs.Blocks.{numbers}
use Rattle.store.proofs.Looks.{apart-first}
use Rattle.store.proofs.checks.+all_differ.Goals as goal

pub returns-then-not-contains : goal.returns-then-not-contains
returns-then-not-contains t c =
    c.all_differ.ensures
    ∙ (ap (λ b. not b && apart (numbers c.in-Some.rest.now)) (sym c.if-not-contains.true)
    ∙ apart-first c.args.nodes.now c.in-Some.v.now c.in-Some.rest.now c.contains.result c.in-Some.ensures.cases.0 c.contains.ensures.value)

pub returns-else-not-contains : goal.returns-else-not-contains
returns-else-not-contains t c =
    ap not c.if-not-contains.false
    ∙ (ap (λ b. not b && apart (numbers c.in-Some.rest.now)) (sym c.if-not-contains.false)
    ∙ apart-first c.args.nodes.now c.in-Some.v.now c.in-Some.rest.now c.contains.result c.in-Some.ensures.cases.0 c.contains.ensures.value)
