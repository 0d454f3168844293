use Rattle.std.proofs.Common.{◌+◌, eqb, ◌∷◌, take, sym, ap, ◌∙◌, rules, tests}
use Rattle.std.proofs.lemmas.Iterator.{YieldsList-from_slice}
use Rattle.std.proofs.lemmas.Iterator.Search.{position_from_yields_List}
use Rattle.std.proofs.lemmas.Iterator.Adapters.{position_from-zero}
use Rattle.std.proofs.lemmas.List.{take_rest}
use Rattle.text.specs.Pieces.{pieces}
use Rattle.text.proofs.PieceLaws.{parted-at, parted-nowhere}
use Rattle.text.proofs.split.split_first.Goals as goal

pub returns-in-Some-clause-pieces : goal.returns-in-Some-clause-pieces
returns-in-Some-clause-pieces c =
    let found = position_from_yields_List (λ b. eqb b c.args.sep) _ _ c.position.result c.position.ensures.ran (YieldsList-from_slice c.args.bytes.now cc) (λ x b q k. search (rules, tests)) ∙ position_from-zero (λ b. eqb b c.args.sep) c.args.bytes.now in
    parted-at c.args.sep c.args.bytes.now c.in-Some.at (sym found ∙ c.in-Some.is)
    ∙ ap (λ l. take c.in-Some.at c.args.bytes.now ∷ pieces c.args.sep l) (sym (take_rest c.args.bytes.now (c.in-Some.at + 1)))

pub returns-in-None-clause-pieces : goal.returns-in-None-clause-pieces
returns-in-None-clause-pieces c =
    let found = position_from_yields_List (λ b. eqb b c.args.sep) _ _ c.position.result c.position.ensures.ran (YieldsList-from_slice c.args.bytes.now cc) (λ x b q k. search (rules, tests)) ∙ position_from-zero (λ b. eqb b c.args.sep) c.args.bytes.now in
    parted-nowhere c.args.sep c.args.bytes.now (sym found ∙ c.in-None.is)
