-- The ledger that a store stands for, and the call that the rules read in a call of the code.
use Rattle.std.specs.Prelude.{ℕ, List, map, Some, None, Option}
use Rattle.blocks.specs.declared.block.Block.{Block}
use Rattle.blocks.specs.declared.code.Code.{Code}
use Rattle.blocks.specs.Blocks as told
use Rattle.blocks.specs.Lists as list
use Rattle.store.specs.declared.stripe.Stripe.{Stripe}
use Rattle.store.specs.declared.stripe.Stripe.TheVariants.{Empty, Filling, Sealed}
use Rattle.store.specs.declared.store.Store.{Store}
use Rattle.store.specs.declared.types.Call.{Call}
use Rattle.store.specs.declared.types.Call.TheVariants as call
use Rattle.store.specs.Stripes as led

abbrev pub held_of : Block → led.Block
held_of b = record { number = b.number; copies = told.copies_of b }

abbrev pub helds_of : List Block → List led.Block
helds_of bs = map held_of bs

abbrev pub stripe_of : Stripe → led.Stripe
stripe_of Empty = led.empty
stripe_of (Filling bs) = led.filling (helds_of bs)
stripe_of (Sealed bs p) = led.sealed (helds_of bs) (list.node_numbers p)

abbrev pub code_of : Option Code → Option led.Code
code_of None = None
code_of (Some o) = Some (record { n = o.n; k = o.k; c = o.c })

abbrev pub ledger_of : {M : Type 0} → Store M → led.Ledger
ledger_of s = record { code = code_of s.code; stripes = map stripe_of s.stripes }

-- with so many lent rows
abbrev pub call_of : Call → ℕ → led.Call
call_of (call.SetUp n k c) room = led.set_up n k c
call_of (call.Offer b vs) room = led.offer b (told.numbers vs.now)
call_of (call.Seal r v) room = led.seal r.0 v.0
call_of (call.Plan r) room = led.plan r.0 room
call_of (call.Deletions r) room = led.deletions r.0 room
call_of (call.Standing r vs w) room = led.standing r.0 (told.numbers vs.now) w
call_of (call.Release r) room = led.release r.0
call_of (call.Abandon r) room = led.abandon r.0
