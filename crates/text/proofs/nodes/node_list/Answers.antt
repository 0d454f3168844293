use Rattle.std.proofs.Common.{[], ◌∷◌, ◌++◌, length, refl, sym, ap, ◌∙◌, arith}
use Rattle.std.proofs.lemmas.List.{length_push}
use Rattle.text.specs.NodeLists.{numbers_in}
use Rattle.text.specs.Parts.{parts_left}
use Rattle.text.proofs.NodeListExact.{listed}
use Rattle.text.proofs.NodeListLaws.{after_nothing, turn-good, kept-more}
use Rattle.text.proofs.PieceLaws.{parted-few}
use Rattle.text.proofs.nodes.node_list.Goals as goal

pub loop-word-init : goal.loop-word-init
loop-word-init c =
    let words = ap parts_left c.into_iter-word-iterator.ensures.into_iter_gives ∙ c.new-word-items.ensures in
    ([], c.new-nodes.ensures, refl, omega (arith, ap length words, parted-few 32 c.args.bytes.now), after_nothing _ ∙ ap (numbers_in 65535) words)

pub returns-in_err-node-clause-exact : goal.returns-in_err-node-clause-exact
returns-in_err-node-clause-exact c = listed c.args.bytes.now

pub overflow_add-len : goal.overflow_add-len
overflow_add-len c = omega (arith, c.loop-word.invariant.2, c.loop-word.invariant.3, ap length c.in-Some.ensures.steps)

pub loop-word-preserved : goal.loop-word-preserved
loop-word-preserved c =
    let i = c.loop-word.invariant in
    let node = c.in_ok-node.node in (
      i.0 ++ node ∷ [],
      kept-more i.0 _ _ node c.push.result i.1 c.push.ensures,
      omega (arith, i.2, length_push i.0 node),
      omega (arith, i.3, length_push i.0 node, ap length c.in-Some.ensures.steps),
      sym (turn-good i.0 _ c.in-Some.word.now _ c.in-Some.ensures.steps node c.in_ok-node.ensures.value) ∙ i.4,
    )

pub returns-clause-exact : goal.returns-clause-exact
returns-clause-exact c = listed c.args.bytes.now
