use Rattle.store.proofs.Held.{put-at}
use Rattle.store.proofs.Fits.{fits-put, allowed-empty}
use Rattle.store.proofs.store.Store.clear.Goals as goal

pub invariant_of-self : goal.invariant_of-self
invariant_of-self g c =
    let st = c.args.self.now in
    let p = fits-put st c.args.rack.0 c.clear.new.self (allowed-empty st.code _ c.clear.ensures) in
    record { full = p.0; within = p.1 }

pub returns-clause-ledger : goal.returns-clause-ledger
returns-clause-ledger g c = put-at c.args.self.now c.args.rack.0 c.clear.new.self c.clear.ensures
