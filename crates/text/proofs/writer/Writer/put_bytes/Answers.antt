use Rattle.std.proofs.Common.{sym, subst, arith}
use Rattle.std.proofs.lemmas.List.{take_more, take_all}
use Rattle.text.specs.Texts.{Wrote}
use Rattle.text.proofs.TextLaws.{wrote_none, wrote-more}
use Rattle.text.proofs.writer.Writer.put_bytes.Goals as goal

pub loop-b-init : goal.loop-b-init
loop-b-init c = wrote_none c.args.self.now

pub loop-b-preserved : goal.loop-b-preserved
loop-b-preserved c = subst (Wrote _ _) (sym (take_more c.args.bytes.now c.loop-b.b-index 0 (omega arith))) (wrote-more _ _ c.loop-b.invariant c.put.ensures)

pub returns : goal.returns
returns c = subst (Wrote _ _) (take_all _ c.args.bytes.now (omega arith)) c.loop-b.invariant
