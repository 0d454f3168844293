use Rattle.std.proofs.Common.{◌≡◌, ℕ, ◌+◌, [], ◌∷◌, ◌++◌, length, get_or, Ok, Err, sym, refl, ap, ◌∙◌, rules, arith}
use Rattle.std.proofs.lemmas.Result.{err_from_is_err_and}
use Rattle.store.specs.declared.types.Answer.TheVariants.{Position}
use Rattle.store.specs.declared.types.Refusal.TheVariants.{NoChoice}
use Rattle.std.proofs.lemmas.List.{length_push}
use Rattle.store.specs.Stripes as led
use Rattle.store.specs.Table.{held_of, stripe_of, ledger_of}
use Rattle.store.proofs.Held.{helds-length, stripe-at, put-at}
use Rattle.store.proofs.Fits.{fits-put, allowed-filling}
use Rattle.store.proofs.Offering.{tried-no, tried-choice}
use Rattle.store.proofs.store.Store.add.Goals as goal

pub returns-in_err-map_err : goal.returns-in_err-map_err
returns-in_err-map_err g c =
    let st = c.args.self.now in
    let p = err_from_is_err_and c.from_residual-in_err-map_err.result c.from_residual-in_err-map_err.ensures.1 in
    let q : (w : ℕ) × (c.admit.result ≡ Err w) × (c.in_err-map_err.field-0.0 ≡ NoChoice w) =
    elim c.admit.result as (λ r. c.admit.result ≡ r → (w : ℕ) × (r ≡ Err w) × (c.in_err-map_err.field-0.0 ≡ NoChoice w)) [
      | Ok x ↦ (λ e. search rules)
      | Err w ↦ (λ e. (w, refl, search rules))
    ] refl in
    let k = rw (q.1, c.c.ensures) at c.admit.ensures in
    rw (p.1, p.2, q.2) (tried-no (g.M.SiteMap.meaning st.map) st c.args.rack.0 c.args.code.c c.blocks-own.result (c.blocks-own.ensures ∙ ap led.blocks_of (sym c.in_ok-stripe.ensures.1)) c.args.block q.0 k.listed k.chosen)

pub invariant_of-self : goal.invariant_of-self
invariant_of-self g c =
    let st = c.args.self.now in
    let r = c.args.rack.0 in
    let d = c.index-self-rack.result in
    let own = ap length (ap led.blocks_of (stripe-at st r c.requires.near d)) in
    let p = fits-put st r c.add.new.self (allowed-filling st.code c.args.code c.requires.coded _ c.add.ensures (omega (arith, own, c.requires.below, length_push (led.blocks_of (stripe_of (get_or st.stripes r d))) (held_of c.args.block)))) in
    record { full = p.0; within = p.1 }

pub returns : goal.returns
returns g c =
    let st = c.args.self.now in
    let s = g.M.SiteMap.meaning st.map in
    let r = c.args.rack.0 in
    let h : c.admit.result ≡ Ok tt = search rules in
    let k = rw (h, c.c.ensures) at c.admit.ensures.listed in
    let own = c.blocks-own.ensures ∙ ap led.blocks_of (sym c.in_ok-stripe.ensures.1) in
    let read : led.stripe (ledger_of st) r ≡ stripe_of (get_or st.stripes r c.index-self-rack.result) = stripe-at st r c.requires.near c.index-self-rack.result in (
      tried-choice s st r c.args.code.c c.blocks-own.result own c.args.block k,
      ap (λ n. Position (n + 1)) (c.len.ensures.value ∙ (sym (helds-length c.blocks-own.result) ∙ ap length own)),
      put-at st r c.add.new.self (c.add.ensures ∙ ap (λ x. led.filling (led.blocks_of x ++ held_of c.args.block ∷ [])) (sym read)),
      refl,
    )
