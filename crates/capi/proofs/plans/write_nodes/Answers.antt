use Rattle.std.proofs.Common.{ℕ, List, get_or, take, set, sym, ap, ◌∙◌, add-one, arith}
use Rattle.std.proofs.lemmas.List.{length-map, take_all}
use Rattle.text.specs.Texts.{whole}
use Rattle.site.specs.declared.Node.{Node}
use Rattle.blocks.specs.Blocks.{numbers}
use Rattle.capi.proofs.Taken.{number_at, whole-more}
use Rattle.capi.proofs.plans.write_nodes.Goals as goal

pub loop-i-preserved : goal.loop-i-preserved
loop-i-preserved c =
    let vs = c.args.nodes.now in
    let i = c.loop-i.i in
    let v = (get_or vs i (record { 0 = 0 })).0 in
    c.put.ensures ∙ ap (λ (l : List ℕ). set l i v) c.loop-i.invariant
    ∙ whole-more c.args.out.now (numbers vs) i v (omega (arith, length-map vs (λ (n : Node). n.0))) (number_at vs i (omega arith)) ∙ ap (λ n. whole c.args.out.now (take n (numbers vs))) (sym (add-one i))

pub returns : goal.returns
returns c =
    let vs = c.args.nodes.now in
    c.loop-i.invariant ∙ ap (whole c.args.out.now) (take_all c.loop-i.i (numbers vs) (omega (arith, length-map vs (λ (n : Node). n.0))))
