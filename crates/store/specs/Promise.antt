-- What a store owes of a call made after any list of calls.
use Rattle.std.specs.Prelude.{◌≡◌, ℕ, ◌+◌, ◌-◌, ◌*◌, ◌<◌, ◌≤◌, true, false, List, [], ◌∷◌, ◌++◌, map, length, drop, is_ok, Some, Ok, Err, Result, ◌≢◌, count_ones}
use Rattle.std.specs.List.{AllByRecursion}
use Rattle.site.specs.Site.{Site, node_rack}
use Rattle.choices.specs.Choice.{Copies, Choice, apart}
use Rattle.choices.specs.Tight.{LeastTight}
use Rattle.choices.specs.Survive.{stand, distinct}
use Rattle.store.specs.declared.types.Row.{Row}
use Rattle.store.specs.declared.types.Answer.{Answer}
use Rattle.store.specs.declared.types.Answer.TheVariants.{Done, Rows, Standing}
use Rattle.store.specs.declared.types.Refusal.{Refusal}
use Rattle.store.specs.declared.types.Refusal.TheVariants.{NoChoice}
use Rattle.store.specs.Stripes.{Code, Block, Ledger, Call, filling, sealed, offer, seal, plan, standing, blocks_of, stripe, copies_of, holds, core, rest}
use Rattle.store.specs.Ledger.{ledger}
use Rattle.store.specs.Answers.{shown, plan_rows}

-- 2 to 8 different nodes on the map, the later ones in other racks than the first
pub record WellFormed (s : Site) (vs : Copies) : Type 0 where
  pub enough : 2 ≤ length vs
  pub few : length vs ≤ 8
  pub present : AllByRecursion (λ v. v < length s) vs
  pub differ : apart vs ≡ true
  pub away : AllByRecursion (λ v. node_rack s v ≢ core s vs) (rest vs)

-- a well-formed new block for a stripe below k blocks
pub record Due (s : Site) (o : Code) (l : Ledger) (b : ℕ) (vs : Copies) : Type 0 where
  pub formed : WellFormed s vs
  pub new : holds l.stripes b ≡ false
  pub below : length (blocks_of (stripe l (core s vs))) < o.k

-- the stripe's blocks and the offered one
abbrev pub together : Site → Ledger → Copies → List Copies
together s l vs = copies_of (blocks_of (stripe l (core s vs))) ++ (vs ∷ [])

-- of a call made after the calls whose ledger is l, with the code o: its result r, and the caller's rows before and after it
pub record Kept (s : Site) (o : Code) (l : Ledger) (call : Call) (r : Result Answer Refusal) (before after : List Row) : Type 0 where
  -- a well-formed new block for a stripe below k blocks is refused only where it leaves no choice
  pub admits : (b : ℕ) (vs : Copies) → call ≡ offer b vs → Due s o l b vs
      → (us : List ℕ) → Choice s o.c (together s l vs) us → is_ok r ≡ true
  -- and where it leaves none, the refusal names the blocks that crowd it out
  pub names : (b : ℕ) (vs : Copies) → call ≡ offer b vs → Due s o l b vs
      → ((us : List ℕ) → Choice s o.c (together s l vs) us → ⊥)
      → (w : ℕ) × (r ≡ Err (NoChoice w)) × LeastTight s o.c (together s l vs) w
  -- an unsealed stripe of k blocks seals from every start node on the map
  pub seals : (rack v : ℕ) (bs : List Block) → call ≡ seal rack v → v < length s → stripe l rack ≡ filling bs → length bs ≡ o.k → r ≡ Ok Done
  -- a sealed stripe's plan is written where there are rows enough, and the rows past it stay
  pub writes : (rack : ℕ) (bs : List Block) (p : List ℕ) → call ≡ plan rack (length before) → stripe l rack ≡ sealed bs p → o.n ≤ length before
      → (r ≡ Ok (Rows o.n)) × (map shown after ≡ plan_rows s bs p ++ map shown (drop o.n before))
  -- whichever nodes and racks are lost within the code's margin, standing tells the plan's count, and at least k of the n planned blocks stand
  pub stands : (rack w : ℕ) (lost : List ℕ) (bs : List Block) (p : List ℕ) → call ≡ standing rack lost w → AllByRecursion (λ v. v < length s) lost → stripe l rack ≡ sealed bs p
      → distinct s lost + o.c * count_ones w ≤ o.n - o.k
      → (r ≡ Ok (Standing (stand s p lost w))) × (length p ≡ o.n) × (o.k ≤ stand s p lost w)

-- the whole promise, for a call made after any list of calls whose ledger has a code
abbrev pub Promised : Site → List Call → Call → Result Answer Refusal → List Row → List Row → Type 0
Promised s calls call r before after = (o : Code) → (ledger s calls).code ≡ Some o → Kept s o (ledger s calls) call r before after
