-- What a call answers, as a function of the ledger alone.
use Rattle.std.specs.Prelude.{◌≡◌, ℕ, zero, suc, ◌+◌, ◌^◌, Bool, cond, List, length, Some, None, Ok, Err, Result, ◌==◌, count_ones, nat_lt}
use Rattle.site.specs.Site.{Site}
use Rattle.choices.specs.Choice.{Copies}
use Rattle.choices.specs.Tight.{reach, LeastTight}
use Rattle.store.specs.declared.types.Row.{Row}
use Rattle.store.specs.declared.types.Answer.{Answer}
use Rattle.store.specs.declared.types.Refusal.{Refusal}
use Rattle.store.specs.declared.types.Refusal.TheVariants.{OutsideLimits, SpaceBelowN, ListLength, OffMap, NodeTwice, CoreRackAgain, NoSuchRack, NotSetUp, SetUpBefore, BlockHeld, StripeFull, NoChoice, StripeBelowK, Sealed, NotSealed, StripeEmpty, FewRows}
use Rattle.store.specs.Stripes.{Ledger, Call, set_up, offer, seal, plan, deletions, standing, release, abandon}
use Rattle.store.specs.Refusals.{refused_by}
use Rattle.store.specs.Ledger.{ledger}
use Rattle.store.specs.Answers.{accepted, Answered}
use Rattle.store.specs.Promise.{together, Promised}

-- the first of n numbers from i on that passes, or i + n
unfoldable pub first_from : (ℕ → Bool) → ℕ → ℕ → ℕ
first_from p i zero = i
first_from p i (suc n) = cond (p i) i (first_from p (i + 1) n)

abbrev pub is_tight : Site → ℕ → List Copies → ℕ → Bool
is_tight s c bs w = nat_lt (reach s c bs w) (count_ones w)

-- The word of the least tight set. It is contained in every other, so no lower word is tight.
unfoldable pub crowd : Site → ℕ → List Copies → ℕ
crowd s c bs = first_from (is_tight s c bs) 0 (2 ^ length bs)

-- the set that crowds out the block of a call
abbrev pub crowd_of : Site → Ledger → Call → ℕ
crowd_of s l (set_up n k c) = 0
crowd_of s l (offer b vs) = elim l.code [ None ↦ 0 | Some o ↦ crowd s o.c (together s l vs) ]
crowd_of s l (seal r v) = 0
crowd_of s l (plan r room) = 0
crowd_of s l (deletions r room) = 0
crowd_of s l (standing r lost w) = 0
crowd_of s l (release r) = 0
crowd_of s l (abandon r) = 0

-- the refusal of a number, where w is the set that crowds the block out
abbrev pub refusal_of : ℕ → ℕ → Refusal
refusal_of w q =
    cond (q == 1) OutsideLimits (cond (q == 2) SpaceBelowN (cond (q == 3) ListLength (cond (q == 4) OffMap
    (cond (q == 5) NodeTwice (cond (q == 6) CoreRackAgain (cond (q == 7) NoSuchRack (cond (q == 20) NotSetUp
    (cond (q == 21) SetUpBefore (cond (q == 22) BlockHeld (cond (q == 23) StripeFull (cond (q == 24) (NoChoice w)
    (cond (q == 25) StripeBelowK (cond (q == 26) Sealed (cond (q == 27) NotSealed (cond (q == 28) StripeEmpty FewRows)))))))))))))))

abbrev pub answer_of : Site → Ledger → Call → Result Answer Refusal
answer_of s l call = elim (refused_by s l call) [ None ↦ Ok (accepted s l call) | Some q ↦ Err (refusal_of (crowd_of s l call) q) ]

-- the word of a least tight set is the one that `crowd` tells
abbrev pub CrowdLeast : Type 0
CrowdLeast = (s : Site) (c : ℕ) (bs : List Copies) (w : ℕ) → LeastTight s c bs w → crowd s c bs ≡ w

-- what a store answers to a call made after any list of calls is this function of their ledger
abbrev pub AnswersOne : Type 0
AnswersOne = (s : Site) (calls : List Call) (call : Call) (r : Result Answer Refusal) (before after : List Row)
    → Answered s (ledger s calls) call r before after → Promised s calls call r before after → r ≡ answer_of s (ledger s calls) call
