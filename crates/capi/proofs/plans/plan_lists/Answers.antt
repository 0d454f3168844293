use Rattle.std.proofs.Common.{length, sym, ap, ◌∙◌, arith}
use Rattle.std.proofs.lemmas.List.{length-map}
use Rattle.site.specs.declared.Node.{Node}
use Rattle.blocks.specs.Lists.{lists_of, node_numbers}
use Rattle.capi.proofs.Planned.{plan-asked}
use Rattle.capi.proofs.plans.plan_lists.Goals as goal

pub returns-then-len-n : goal.returns-then-len-n
returns-then-len-n c =
    let lists = c.args.lists.now in
    let code = c.in_ok-code.code in
    let within = rw c.in_ok-code.ensures.ok_part at c.new.ensures in
    let p = c.plan-planned.result in
    let asked =
    plan-asked c.args.site.now c.args.code.now lists.nodes.now lists.lens.now code.n code.k code.c _ (lists_of c.read.new.blocks) c.args.start (node_numbers p) c.in_ok-map.ensures within
    (c.in_ok-read.ensures c.new-blocks.ensures) (omega arith) c.plan-planned.ensures.planned in
    (asked.0, λ e. c.if-len-n.true (c.len.ensures.value ∙ sym (length-map p (λ (v : Node). v.0)) ∙ ap length asked.1 ∙ e ∙ sym within.1 ∙ sym c.n.ensures))

pub returns : goal.returns
returns c =
    let lists = c.args.lists.now in
    let code = c.in_ok-code.code in
    let within = rw c.in_ok-code.ensures.ok_part at c.new.ensures in
    let p = c.plan-planned.result in
    let asked =
    plan-asked c.args.site.now c.args.code.now lists.nodes.now lists.lens.now code.n code.k code.c _ (lists_of c.read.new.blocks) c.args.start (node_numbers p) c.in_ok-map.ensures within
    (c.in_ok-read.ensures c.new-blocks.ensures) (omega arith) c.plan-planned.ensures.planned in
    (asked.0, asked.1, sym (ap length asked.1) ∙ length-map p (λ (v : Node). v.0) ∙ sym c.len.ensures.value ∙ c.if-len-n.false ∙ c.n.ensures ∙ within.1)
