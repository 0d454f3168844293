use Rattle.std.proofs.Common.{map, ◌∙◌, rules}
use Rattle.std.proofs.lemmas.Iterator.{YieldsList-from_slice}
use Rattle.std.proofs.lemmas.Iterator.Search.{any_from_yields_List}
use borrow.Author.Tests.{tests}
use Rattle.choices.specs.Choice.{has}
use Rattle.store.specs.Stripes.{blocks_of}
use Rattle.store.specs.Table.{stripe_of}
use Rattle.store.proofs.Held.{holds-any}
use Rattle.store.proofs.store.Store.holds.Goals as goal

pub returns : goal.returns
returns g c =
    let ss = c.args.self.now.stripes in
    any_from_yields_List (λ s. has c.args.number (map (λ b. b.number) (blocks_of (stripe_of s)))) _ _ c.any.result c.any.ensures.ran (YieldsList-from_slice ss cc) (λ x b q k. search (rules, tests))
    ∙ holds-any ss c.args.number
