-- Which refusal a call meets at a ledger: the first of its checks, in their order.
use Rattle.std.specs.Prelude.{ℕ, ◌-◌, Bool, true, false, cond, not, ◌||◌, List, [], ◌∷◌, ◌++◌, length, Some, None, sum_by, Option, ◌==◌, nat_le, nat_lt}
use Rattle.site.specs.Site.{Site, node_rack}
use Rattle.choices.specs.Choice.{apart, every, choices}
use Rattle.choices.specs.Room.{space}
use Rattle.store.specs.declared.types.Refusal.{Refusal}
use Rattle.store.specs.declared.types.Refusal.TheVariants.{OutsideLimits, SpaceBelowN, ListLength, OffMap, NodeTwice, CoreRackAgain, NoSuchRack, NotSetUp, SetUpBefore, BlockHeld, StripeFull, NoChoice, StripeBelowK, Sealed, NotSealed, StripeEmpty, FewRows}
use Rattle.store.specs.Stripes.{Code, Ledger, Call, set_up, offer, seal, plan, deletions, standing, release, abandon, blocks_of, is_sealed, is_empty, stripe, copies_of, holds, core, rest}

-- each refusal's number
abbrev pub number_of : Refusal → ℕ
number_of OutsideLimits = 1
number_of SpaceBelowN = 2
number_of ListLength = 3
number_of OffMap = 4
number_of NodeTwice = 5
number_of CoreRackAgain = 6
number_of NoSuchRack = 7
number_of NotSetUp = 20
number_of SetUpBefore = 21
number_of BlockHeld = 22
number_of StripeFull = 23
number_of (NoChoice w) = 24
number_of StripeBelowK = 25
number_of Sealed = 26
number_of NotSealed = 27
number_of StripeEmpty = 28
number_of FewRows = 29

abbrev pub none : {A : Type 0} → List A → Bool
none [] = true
none (x ∷ xs) = false

-- the first of some refusals that is met
abbrev pub first : List (Bool × ℕ) → Option ℕ
first [] = None
first ((met, number) ∷ more) = cond met (Some number) (first more)

abbrev pub on_map : Site → ℕ → Bool
on_map s v = nat_lt v (length s)

-- with the code in hand, the refusals of a call in the order of their checks
abbrev pub checks : Site → Code → Ledger → Call → List (Bool × ℕ)
checks s o l (set_up n k c) = (true, 21) ∷ []
checks s o l (offer b vs) =
    let own = blocks_of (stripe l (core s vs)) in
    (nat_lt (length vs) 2 || nat_lt 8 (length vs), 3)
    ∷ (not (every (on_map s) vs), 4)
    ∷ (not (apart vs), 5)
    ∷ (not (every (λ v. not (node_rack s v == core s vs)) (rest vs)), 6)
    ∷ (holds l.stripes b, 22)
    ∷ (nat_le o.k (length own), 23)
    ∷ (none (choices s o.c (copies_of own ++ (vs ∷ []))), 24)
    ∷ []
checks s o l (seal r v) = (nat_lt 31 r, 7) ∷ (not (on_map s v), 4) ∷ (is_sealed (stripe l r), 26) ∷ (nat_lt (length (blocks_of (stripe l r))) o.k, 25) ∷ []
checks s o l (plan r rows) = (nat_lt 31 r, 7) ∷ (not (is_sealed (stripe l r)), 27) ∷ (nat_lt rows o.n, 29) ∷ []
checks s o l (deletions r rows) =
    (nat_lt 31 r, 7) ∷ (not (is_sealed (stripe l r)), 27)
    ∷ (nat_lt rows (sum_by (λ b. length b.copies - 1) (blocks_of (stripe l r))), 29) ∷ []
checks s o l (standing r vs w) = (nat_lt 31 r, 7) ∷ (not (every (on_map s) vs), 4) ∷ (not (is_sealed (stripe l r)), 27) ∷ []
checks s o l (release r) = (nat_lt 31 r, 7) ∷ (not (is_sealed (stripe l r)), 27) ∷ []
checks s o l (abandon r) = (nat_lt 31 r, 7) ∷ (is_empty (stripe l r), 28) ∷ []

-- the limits are 1 ≤ k ≤ 16, k < n ≤ 24 and 1 ≤ c ≤ n − k
abbrev pub outside : ℕ → ℕ → ℕ → Bool
outside n k c = nat_lt k 1 || (nat_lt 16 k || (nat_le n k || (nat_lt 24 n || (nat_lt c 1 || nat_lt (n - k) c))))

-- without a code, the same
abbrev pub fresh : Site → Call → List (Bool × ℕ)
fresh s (set_up n k c) = (outside n k c, 1) ∷ (nat_lt (space s c) n, 2) ∷ []
fresh s (offer b vs) = (true, 20) ∷ []
fresh s (seal r v) = (true, 20) ∷ []
fresh s (plan r rows) = (true, 20) ∷ []
fresh s (deletions r rows) = (true, 20) ∷ []
fresh s (standing r vs w) = (true, 20) ∷ []
fresh s (release r) = (true, 20) ∷ []
fresh s (abandon r) = (true, 20) ∷ []

abbrev pub refused_by : Site → Ledger → Call → Option ℕ
refused_by s l call = elim l.code [ None ↦ first (fresh s call) | Some o ↦ first (checks s o l call) ]
