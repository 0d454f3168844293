-- How many blocks a stripe of a store has: none while there is no code; then at most k, and k where it is sealed.
use Rattle.std.specs.Prelude.{Bool, true, false, List, length, Some, None, Option, ◌==◌, nat_le}
use Rattle.choices.specs.Choice.{every}
use Rattle.blocks.specs.declared.code.Code.{Code}
use Rattle.store.specs.declared.stripe.Stripe.{Stripe}
use Rattle.store.specs.declared.stripe.Stripe.TheVariants.{Empty, Filling, Sealed}

abbrev pub allowed : Option Code → Stripe → Bool
allowed None Empty = true
allowed None (Filling bs) = false
allowed None (Sealed bs p) = false
allowed (Some o) Empty = true
allowed (Some o) (Filling bs) = nat_le (length bs) o.k
allowed (Some o) (Sealed bs p) = length bs == o.k

abbrev pub fitted : Option Code → List Stripe → Bool
fitted o ss = every (allowed o) ss
