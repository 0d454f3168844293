use Rattle.std.proofs.Common.{subst, arith}
use Rattle.text.specs.Numbers.{Numbered}
use Rattle.reader.proofs.WantLaws.{next-right}
use Rattle.reader.proofs.form.judge_next.Goals as goal

pub returns : goal.returns
returns c =
    let n = subst (Numbered 4294967295 c.args.field.now) c.in_ok-node.ensures.ok_part c.number.ensures.exact in
    next-right c.args.count c.args.field.now c.in_ok-node.node n.0 n.1 (omega arith) (omega arith)
