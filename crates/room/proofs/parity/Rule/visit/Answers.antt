use Rattle.std.proofs.Common.{◌≡◌, ◌<◌, false, [], ◌∷◌, ◌++◌, length, sym, ap, ◌∙◌, subst, inl, inr, arith}
use Rattle.std.proofs.lemmas.List.{length-map, map_push}
use Rattle.fixed.proofs.Pushes.{pushed}
use Rattle.choices.specs.Choice.{has}
use Rattle.blocks.specs.Lists.{node_numbers}
use Rattle.blocks.proofs.Looks.{has-any}
use Rattle.room.specs.Plans.{Loads}
use Rattle.room.proofs.Visits.{load-more, took, left}
use Rattle.room.proofs.parity.Rule.visit.Goals as goal
use Rattle.room.proofs.parity.Rule.visit.Goals.{else-of-self-via-then-of-self+else-not-contains, else-of-self-via-else-of-self}

pub returns-then-not-contains : goal.returns-then-not-contains
returns-then-not-contains g c =
    let s = g.M.SiteMap.meaning c.args.self.now.map.now in
    let nodes = c.args.plan.now.nodes in
    let y = c.in-Some.ensures in
    let few : length (node_numbers nodes) < c.args.self.now.most = omega (arith, length-map nodes (λ v. v.0), c.len.ensures.value, c.if-len-self.false) in
    let room : length nodes < 24 = omega (arith, length-map nodes (λ v. v.0), few, c.args.self.now.few) in
    let p : node_numbers c.push.new.self ≡ node_numbers nodes ++ c.args.v.0 ∷ [] =
    ap node_numbers (pushed 24 nodes c.push.new.self c.args.v c.push.result c.push.ensures room) ∙ map_push (λ v. v.0) nodes c.args.v in
    let new : has c.args.v.0 (node_numbers nodes) ≡ false = sym (has-any (λ v. v.0) c.args.v.0 nodes) ∙ sym c.contains.ensures ∙ c.if-not-contains.true in (
      p ∙ took s c.args.self.now.c c.args.self.now.most (node_numbers nodes) c.args.plan.now.loads c.requires c.args.v.0 c.in-Some.rack.0 y.0 y.1 y.2 few new
          (omega (arith, c.of.ensures, c.if-of-self.true)),
      subst (λ t. Loads s t c.add.new.self) (sym p) (subst (Loads s _) (sym c.add.ensures) (load-more s (node_numbers nodes) c.args.plan.now.loads c.requires c.args.v.0 c.in-Some.rack.0 y.1 y.2)),
    )

pub returns-else-of-self : goal.returns-else-of-self
returns-else-of-self g c =
    let s = g.M.SiteMap.meaning c.args.self.now.map.now in
    let nodes = c.args.plan.now.nodes in
    let y = c.in-Some.ensures in
    let few : length (node_numbers nodes) < c.args.self.now.most = omega (arith, length-map nodes (λ v. v.0), c.len.ensures.value, c.if-len-self.false) in (
      left s c.args.self.now.c c.args.self.now.most (node_numbers nodes) c.args.plan.now.loads c.requires c.args.v.0 c.in-Some.rack.0 y.0 y.1 y.2 few
          (elim c.else-of-self.branch [
            | else-of-self-via-then-of-self+else-not-contains w ↦ inl (sym (has-any (λ v. v.0) c.args.v.0 nodes) ∙ sym w.contains.ensures ∙ w.if-not-contains.false)
            | else-of-self-via-else-of-self w ↦ inr (omega (arith, c.of.ensures, w.if-of-self.false))
          ]),
      c.requires,
    )
