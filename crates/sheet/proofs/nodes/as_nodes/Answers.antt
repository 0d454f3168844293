use Rattle.std.proofs.Common.{◌≡◌, ◌+◌, ◌<◌, [], ◌∷◌, ◌++◌, length, get_or, take, sym, ap, ◌∙◌, arith}
use Rattle.std.proofs.lemmas.List.{length-set, length-map, map-set, take_more, take_more_set}
use Rattle.site.specs.declared.Node.{Node}
use Rattle.blocks.specs.Blocks.{numbers}
use Rattle.sheet.proofs.nodes.as_nodes.Goals as goal

pub loop-i-preserved : goal.loop-i-preserved
loop-i-preserved g c =
    let words = c.front-words.result.now in
    let nodes = c.loop-i.nodes in
    let i = c.loop-i.i in
    let inv = c.loop-i.invariant in
    let room : i < length (numbers nodes) = omega (arith, length-map nodes (λ (v : Node). v.0), inv.0, c.loop-i-test.true) in (
      ap length c.set.ensures ∙ (length-set nodes i _ ∙ inv.0),
      ap (λ ns. take (i + 1) (numbers ns)) c.set.ensures ∙ (ap (take (i + 1)) (map-set (λ (v : Node). v.0) nodes i _)
          ∙ (take_more_set (numbers nodes) i _ room ∙ (ap (λ t. t ++ get_or words i 0 ∷ []) inv.1 ∙ sym (take_more words i 0 c.loop-i-test.true)))),
    )
