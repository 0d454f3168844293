use Rattle.std.proofs.Common.{ℕ, List, [], ◌∷◌, get_or, take, decimal, sym, ap, ◌∙◌, subst, arith}
use Rattle.std.specs.List.{flat_map}
use Rattle.std.proofs.lemmas.List.{flat_map_more, take_more, take_all}
use Rattle.text.specs.Texts.{Wrote}
use Rattle.text.proofs.TextLaws.{wrote_none, wrote-more}
use Rattle.text.proofs.writer.Writer.put_further.Goals as goal

abbrev spaced_one : ℕ → List ℕ
spaced_one n = 32 ∷ decimal n

pub loop-n-init : goal.loop-n-init
loop-n-init c = wrote_none c.args.self.now

pub loop-n-preserved : goal.loop-n-preserved
loop-n-preserved c =
    let xs = c.args.numbers.now in
    let i = c.loop-n.n-index in
    let e = flat_map_more spaced_one [] (take i xs) (get_or xs i 0) ∙ ap (flat_map spaced_one) (sym (take_more xs i 0 (omega arith))) in
    subst (Wrote _ _) e (wrote-more _ _ c.loop-n.invariant (wrote-more _ _ c.put.ensures c.put_number.ensures))

pub returns : goal.returns
returns c = subst (Wrote _ _) (ap (flat_map spaced_one) (take_all _ c.args.numbers.now (omega arith))) c.loop-n.invariant
