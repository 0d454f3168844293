-- What the contract of each call tells of the store, the result and the caller's rows.
use Rattle.std.specs.Prelude.{◌≡◌, ℕ, ◌+◌, ◌≤◌, true, List, [], ◌∷◌, ◌++◌, map, length, drop, is_err, Some, None, Ok, Err, Result, ◌≢◌}
use Rattle.site.specs.Site.{Site}
use Rattle.choices.specs.Choice.{Copies, choices}
use Rattle.choices.specs.Tight.{LeastTight}
use Rattle.store.specs.declared.types.Row.{Row}
use Rattle.store.specs.declared.types.Answer.{Answer}
use Rattle.store.specs.declared.types.Answer.TheVariants.{Position}
use Rattle.store.specs.declared.types.Refusal.{Refusal}
use Rattle.store.specs.declared.types.Refusal.TheVariants.{NoChoice}
use Rattle.store.specs.declared.store.Store.{Store}
use Rattle.store.specs.Stripes.{Code, Block, Ledger, Call, filling, offer, blocks_of, stripe, copies_of, core}
use Rattle.store.specs.Refusals.{number_of, refused_by}
use Rattle.store.specs.Ledger.{put, step, ledger}
use Rattle.store.specs.Answers.{shown, accepted, written, Answered}
use Rattle.store.specs.Promise.{together, Promised}
use Rattle.store.specs.Table.{ledger_of}

-- The exact answer of a call at any ledger at all. The rows are told where the caller has as many as the rules write; at the ledger of
-- a list of calls, a call that is not refused always has.
abbrev pub Answering : Site → Ledger → Call → Result Answer Refusal → List Row → List Row → Type 0
Answering s l call r before after = elim (refused_by s l call) [
  | Some q ↦ ((e : Refusal) × (r ≡ Err e) × (number_of e ≡ q)) × (after ≡ before)
  | None ↦ (r ≡ Ok (accepted s l call))
      × (length (written s l call) ≤ length before → map shown after ≡ written s l call ++ map shown (drop (length (written s l call)) before))
]

-- the word of a refused offer is the set that crowds it out, where the stripe's own blocks have a choice
abbrev pub Named : Site → Ledger → Call → Result Answer Refusal → Type 0
Named s l call r = (o : Code) (b : ℕ) (vs : Copies) (w : ℕ) → l.code ≡ Some o → call ≡ offer b vs → r ≡ Err (NoChoice w)
    → (choices s o.c (copies_of (blocks_of (stripe l (core s vs)))) ≢ []) → LeastTight s o.c (together s l vs) w

-- a call on the store before, with its result, the store after it, and the caller's rows before and after
pub record Told {M : Type 0} (s : Site) (before after : Store M) (call : Call) (r : Result Answer Refusal) (old new : List Row) : Type 0 where
  pub answers : Answering s (ledger_of before) call r old new
  pub names : Named s (ledger_of before) call r
  pub noted : ledger_of after ≡ step s (ledger_of before) call
  pub kept : after.map ≡ before.map
  pub refused : is_err r ≡ true → (after ≡ before) × (new ≡ old)

-- A call on a store that was made over the site and has had the calls h and nothing else: what it is afterwards, and the whole promise.
pub record Since (s : Site) (h : List Call) (call : Call) (after : Ledger) (r : Result Answer Refusal) (old new : List Row) : Type 0 where
  pub ledgered : after ≡ ledger s (h ++ call ∷ [])
  pub answered : Answered s (ledger s h) call r old new
  pub promised : Promised s h call r old new

-- one more block for rack r's stripe, at most c in a rack: added where it leaves a choice, and otherwise refused with the set that crowds it out
abbrev pub Tried : {M : Type 0} → Site → ℕ → ℕ → Block → Store M → Store M → Result Answer Refusal → Type 0
Tried s c r b before after (Ok a) =
    let own = blocks_of (stripe (ledger_of before) r) in
    (choices s c (copies_of own ++ b.copies ∷ []) ≢ []) × (a ≡ Position (length own + 1)) × (ledger_of after ≡ put (ledger_of before) r (filling (own ++ b ∷ []))) × (after.map ≡ before.map)
Tried s c r b before after (Err e) =
    let own = blocks_of (stripe (ledger_of before) r) in
    (choices s c (copies_of own ++ b.copies ∷ []) ≡ []) × ((w : ℕ) × (e ≡ NoChoice w) × ((choices s c (copies_of own) ≢ []) → LeastTight s c (copies_of own ++ b.copies ∷ []) w)) × (after ≡ before)
