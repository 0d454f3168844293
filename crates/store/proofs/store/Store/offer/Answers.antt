use Rattle.std.proofs.Common.{◌≡◌, length, sym, ap, ◌∙◌, arith}
use Rattle.blocks.specs.Blocks.{numbers}
use Rattle.store.specs.declared.stripe.Stripe.TheVariants.{Empty, Filling}
use Rattle.store.specs.Stripes as led
use Rattle.store.specs.Table.{held_of, stripe_of, ledger_of}
use Rattle.store.proofs.Held.{helds-length}
use Rattle.store.proofs.Offering.{offer-tried, block-long, core-near}
use Rattle.store.proofs.store.Store.offer.Goals as goal

pub returns-in_err-own : goal.returns-in_err-own
returns-in_err-own g c =
    let st = c.args.self.now in
    let ns = c.args.nodes.now in
    let new = rw c.in_ok-block.ensures.ok_part at c.new.ensures in
    let long = block-long c.in_ok-block.block ns new.1 in
    absurd (omega (arith, core-near (g.M.SiteMap.meaning st.map) (numbers ns) (g.M.SiteMap.limits st.map) (omega (arith, long.0)) (sym c.if-not-all_on_map.ensures), c.in_ok-rack.ensures.0, c.in_err-own.ensures.0))

pub returns-in-Empty : goal.returns-in-Empty
returns-in-Empty g c =
    let st = c.args.self.now in
    let s = g.M.SiteMap.meaning st.map in
    let vs = numbers c.args.nodes.now in
    let block = c.in_ok-block.block in
    let new = rw c.in_ok-block.ensures.ok_part at c.new.ensures in
    let long = block-long block c.args.nodes.now new.1 in
    let core = c.in_ok-rack.ensures in
    let read : led.stripe (ledger_of st) (led.core s vs) ≡ stripe_of Empty = ap (led.stripe (ledger_of st)) (sym core.0) ∙ (c.in_ok-own.ensures.1 ∙ ap stripe_of c.in-Empty.is) in
    let room = ap (λ x. length (led.blocks_of x)) read in
    offer-tried s st c.args.number vs c.in_ok-code.code c.in_ok-code.ensures long.0 long.1 (sym c.if-not-all_on_map.ensures) (sym c.if-not-all_differ.ensures) core.1 (sym c.if-holds.ensures)
    (omega (arith, room, c.in_ok-code.code.some)) c.in_ok-rack.rack.0 (held_of block) c.add.new.self c.add.result core.0
    (ap (λ n. record { number = n; copies = (held_of block).copies }) new.0 ∙ ap (λ l. record { number = c.args.number; copies = l }) new.1) c.add.ensures

pub returns-else-len-k : goal.returns-else-len-k
returns-else-len-k g c =
    let st = c.args.self.now in
    let s = g.M.SiteMap.meaning st.map in
    let vs = numbers c.args.nodes.now in
    let block = c.in_ok-block.block in
    let new = rw c.in_ok-block.ensures.ok_part at c.new.ensures in
    let long = block-long block c.args.nodes.now new.1 in
    let core = c.in_ok-rack.ensures in
    let read : led.stripe (ledger_of st) (led.core s vs) ≡ stripe_of (Filling c.in-Filling.own) = ap (led.stripe (ledger_of st)) (sym core.0) ∙ (c.in_ok-own.ensures.1 ∙ ap stripe_of c.in-Filling.is) in
    let room = ap (λ x. length (led.blocks_of x)) read in
    offer-tried s st c.args.number vs c.in_ok-code.code c.in_ok-code.ensures long.0 long.1 (sym c.if-not-all_on_map.ensures) (sym c.if-not-all_differ.ensures) core.1 (sym c.if-holds.ensures)
    (omega (arith, room, c.if-len-k.false, c.len.ensures.value, c.k.ensures, helds-length c.in-Filling.own)) c.in_ok-rack.rack.0 (held_of block) c.add-in-Filling.new.self c.add-in-Filling.result core.0
    (ap (λ n. record { number = n; copies = (held_of block).copies }) new.0 ∙ ap (λ l. record { number = c.args.number; copies = l }) new.1) c.add-in-Filling.ensures
