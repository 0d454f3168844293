use Rattle.std.proofs.Common.{◌∙◌, eqb, rules}
use Rattle.std.proofs.lemmas.Iterator.{YieldsList-from_slice}
use Rattle.std.proofs.lemmas.Iterator.Search.{any_from_yields_List}
use borrow.Author.Tests.{tests}
use Rattle.blocks.specs.declared.block.Block.{Block}
use Rattle.blocks.proofs.Looks.{has-any}
use Rattle.blocks.proofs.lists.holds.Goals as goal

pub returns : goal.returns
returns c =
    any_from_yields_List (λ (b : Block). eqb b.number c.args.number) _ _ c.any.result c.any.ensures.ran (YieldsList-from_slice c.args.blocks.now cc) (λ x b q k. search (rules, tests))
    ∙ has-any (λ (b : Block). b.number) c.args.number c.args.blocks.now
