use Rattle.std.proofs.Common.{Bool, map, sym, ap, ◌∙◌, ⊎_elim}
use Rattle.choices.specs.Choice.{has}
use Rattle.store.specs.declared.stripe.Stripe.{Stripe}
use Rattle.store.specs.Stripes.{blocks_of}
use Rattle.store.specs.Table.{stripe_of}
use Rattle.store.proofs.Held.{helds-numbers}
use Rattle.store.proofs.stripe.Stripe.holds.Goals as goal

pub returns-in-Filling : goal.returns-in-Filling
returns-in-Filling c =
    let look : Stripe → Bool = λ x. has c.args.number (map (λ b. b.number) (blocks_of (stripe_of x))) in
    c.holds.ensures ∙ (ap (has c.args.number) (sym (helds-numbers c.in-Filling.blocks)) ∙ sym (⊎_elim (λ e. ap look e) (λ e. ap look e.1) c.in-Filling.is))
