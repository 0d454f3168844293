use Rattle.std.proofs.Common.{length, sym, refl, ap, ◌∙◌, arith}
use Rattle.std.proofs.lemmas.List.{length-map}
use Rattle.std.proofs.lemmas.Bool.{ltb-true}
use Rattle.blocks.specs.Blocks.{copies_of}
use Rattle.blocks.specs.Lists.{node_numbers}
use Rattle.store.specs.Stripes as led
use Rattle.store.specs.Fitted.{allowed}
use Rattle.store.specs.Table.{stripe_of}
use Rattle.store.proofs.Held.{helds-length, stripe-at, put-at}
use Rattle.store.proofs.Fits.{fits-put, allowed-sealed, few}
use Rattle.store.proofs.Offering.{seal-told}
use Rattle.store.proofs.store.Store.seal.Goals as goal

pub invariant_of-self : goal.invariant_of-self
invariant_of-self g c =
    let st = c.args.self.now in
    let r = c.args.rack.0 in
    let o = c.in_ok-code.code in
    let x = c.in_ok-found.ensures in
    let own = ap led.blocks_of (sym (stripe-at st r x.0 c.index-self-rack.result) ∙ (x.1 ∙ ap stripe_of c.in-Filling.is)) in
    let room = few st.code o c.in_ok-code.ensures c.in-Filling.blocks (ap (allowed st.code) (sym c.in-Filling.is) ∙ x.2) in
    let p = fits-put st r c.seal.new.self (allowed-sealed st.code o c.in_ok-code.ensures _ c.seal.ensures (omega (arith, ap length own, helds-length c.in-Filling.blocks, room, c.len.ensures.value, c.k.ensures, c.if-len-k.false))) in
    record { full = p.0; within = p.1 }

pub returns-else-len-k : goal.returns-else-len-k
returns-else-len-k g c =
    let st = c.args.self.now in
    let s = g.M.SiteMap.meaning st.map in
    let r = c.args.rack.0 in
    let o = c.in_ok-code.code in
    let bs = c.in-Filling.blocks in
    let x = c.in_ok-found.ensures in
    let read = x.1 ∙ ap stripe_of c.in-Filling.is in
    let own = ap led.blocks_of (sym (stripe-at st r x.0 c.index-self-rack.result) ∙ read) in
    let long = helds-length bs in
    let room = few st.code o c.in_ok-code.ensures bs (ap (allowed st.code) (sym c.in-Filling.is) ∙ x.2) in
    seal-told s st _ r c.args.start.0 o c.in_ok-code.ensures x.0 (ltb-true c.args.start.0 (length s) (sym c.if-not-on_map.ensures)) bs c.plan-nodes.result
    (ap led.is_sealed read) (ap led.blocks_of (sym read)) (omega (arith, long, c.len.ensures.value, c.k.ensures, c.if-len-k.false))
    (c.plan-nodes.ensures.planned (omega (arith, room, length-map bs copies_of)))
    (put-at st r c.seal.new.self (c.seal.ensures ∙ ap (λ l. led.sealed l (node_numbers c.plan-nodes.result)) own)) refl
