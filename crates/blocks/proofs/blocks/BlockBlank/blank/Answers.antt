use Rattle.std.proofs.Common.{◌∷◌, [], ◌++◌, length, refl, ap, ◌∙◌, arith}
use Rattle.fixed.proofs.Pushes.{pushed}
use Rattle.blocks.specs.Blocks.{blank_block, numbers}
use Rattle.blocks.proofs.Same.{same_block}
use Rattle.blocks.proofs.blocks.BlockBlank.blank.Goals as goal

pub returns : goal.returns
returns c =
    let e = c.new-nodes.ensures in
    let one = pushed 8 _ _ _ c.push.result c.push.ensures (omega (arith, ap length e)) ∙ ap (λ vs. vs ++ record { 0 = 0 } ∷ []) e in
    let two = pushed 8 _ _ _ c.push-2.result c.push-2.ensures (omega (arith, ap length one)) ∙ ap (λ vs. vs ++ record { 0 = 0 } ∷ []) one in
    same_block _ blank_block refl (ap numbers two)
