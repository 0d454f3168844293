use Rattle.std.proofs.Common.{not, ap, ◌∙◌, sym}
use Rattle.site.specs.Words.{member}
use Rattle.blocks.proofs.Looks.{has-any}
use Rattle.store.proofs.reads.stands.Goals as goal

pub returns-then-not-contains : goal.returns-then-not-contains
returns-then-not-contains g c =
    let h = sym (has-any (λ w. w.0) c.args.v.0 c.args.lost.now) ∙ (sym c.contains.ensures.value ∙ c.if-not-contains.true) in
    rw h (ap not (c.has.ensures ∙ ap (member c.args.racks) c.rack_of.ensures))

pub returns-else-not-contains : goal.returns-else-not-contains
returns-else-not-contains g c =
    let h = sym (has-any (λ w. w.0) c.args.v.0 c.args.lost.now) ∙ (sym c.contains.ensures.value ∙ c.if-not-contains.false) in
    rw h (ap not c.if-not-contains.false)
