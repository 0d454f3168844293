use Rattle.std.proofs.Common.{sym, ◌∙◌, rules, tests}
use Rattle.std.specs.Str.{bytes_eq}
use Rattle.std.proofs.lemmas.Iterator.{YieldsList-from_slice}
use Rattle.std.proofs.lemmas.Iterator.Search.{position_from_yields_List}
use Rattle.std.proofs.lemmas.Iterator.Adapters.{position_from-zero}
use Rattle.text.proofs.OrderLaws.{index-position}
use Rattle.text.proofs.names.index_of.Goals as goal

pub returns : goal.returns
returns c =
    position_from_yields_List (λ n. bytes_eq c.args.field.now n.now) _ _ c.position.result c.position.ensures.ran (YieldsList-from_slice c.args.names.now cc) (λ x b q k. search (rules, tests))
    ∙ position_from-zero (λ n. bytes_eq c.args.field.now n.now) c.args.names.now
    ∙ sym (index-position 0 c.args.field.now c.args.names.now)
