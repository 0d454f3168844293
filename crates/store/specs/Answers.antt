-- What each call answers at a ledger, and the rows that it writes.
use Rattle.std.specs.Prelude.{◌≡◌, ℕ, suc, ◌+◌, ◌-◌, not, List, [], ◌∷◌, ◌++◌, map, length, drop, Some, None, Ok, Err, filter, Result, ◌==◌}
use Rattle.std.specs.List.{slice_get}
use Rattle.site.specs.Site.{Site, node_rack}
use Rattle.choices.specs.Survive.{stand}
use Rattle.store.specs.declared.types.Kind.{Kind}
use Rattle.store.specs.declared.types.Kind.TheVariants.{Data, Parity, Deleted}
use Rattle.store.specs.declared.types.Row.{Row}
use Rattle.store.specs.declared.types.Answer.{Answer}
use Rattle.store.specs.declared.types.Answer.TheVariants.{Done, Position, Rows, Standing}
use Rattle.store.specs.declared.types.Refusal.{Refusal}
use Rattle.store.specs.Stripes.{Block, Ledger, Call, set_up, offer, seal, plan, deletions, standing, release, abandon, blocks_of, plan_of, stripe, core}
use Rattle.store.specs.Refusals.{number_of, refused_by}

-- each kind's number
abbrev pub kind_of : Kind → ℕ
kind_of Data = 0
kind_of Parity = 1
kind_of Deleted = 2

-- a row as kind, number, node and rack
abbrev pub Line : Type 0
Line = ℕ × ℕ × ℕ × ℕ

abbrev pub shown : Row → Line
shown row = (kind_of row.kind, row.number, row.node.0, row.rack.0)

abbrev pub lines : List Row → List Line
lines rows = map shown rows

-- data rows by position
abbrev pub data_rows : Site → List Block → List ℕ → List Line
data_rows s [] vs = []
data_rows s (b ∷ bs) [] = []
data_rows s (b ∷ bs) (v ∷ vs) = (0, b.number, v, node_rack s v) ∷ data_rows s bs vs

-- parity rows numbered from i on
abbrev pub parity_rows : Site → ℕ → List ℕ → List Line
parity_rows s i [] = []
parity_rows s i (v ∷ vs) = (1, i, v, node_rack s v) ∷ parity_rows s (suc i) vs

abbrev pub plan_rows : Site → List Block → List ℕ → List Line
plan_rows s bs p = data_rows s bs p ++ parity_rows s 1 (drop (length bs) p)

-- a row of kind 2 for each copy that is not kept, by position and then list order
abbrev pub gone_rows : Site → List Block → List ℕ → List Line
gone_rows s [] vs = []
gone_rows s (b ∷ bs) [] = []
gone_rows s (b ∷ bs) (v ∷ vs) = map (λ w. (2, b.number, w, node_rack s w)) (filter (λ w. not (w == v)) b.copies) ++ gone_rows s bs vs

-- what an accepted call answers
abbrev pub accepted : Site → Ledger → Call → Answer
accepted s l (set_up n k c) = Done
accepted s l (offer b vs) = Position (length (blocks_of (stripe l (core s vs))) + 1)
accepted s l (seal r v) = Done
accepted s l (plan r room) = Rows (length (plan_rows s (blocks_of (stripe l r)) (plan_of (stripe l r))))
accepted s l (deletions r room) = Rows (length (gone_rows s (blocks_of (stripe l r)) (plan_of (stripe l r))))
accepted s l (standing r lost w) = Standing (stand s (plan_of (stripe l r)) lost w)
accepted s l (release r) = Done
accepted s l (abandon r) = Done

-- and the rows that it writes
abbrev pub written : Site → Ledger → Call → List Line
written s l (set_up n k c) = []
written s l (offer b vs) = []
written s l (seal r v) = []
written s l (plan r room) = plan_rows s (blocks_of (stripe l r)) (plan_of (stripe l r))
written s l (deletions r room) = gone_rows s (blocks_of (stripe l r)) (plan_of (stripe l r))
written s l (standing r lost w) = []
written s l (release r) = []
written s l (abandon r) = []

-- the exact answer of a call at a ledger, with the caller's rows before and after
abbrev pub Answered : Site → Ledger → Call → Result Answer Refusal → List Row → List Row → Type 0
Answered s l call r before after = elim (refused_by s l call) [
  | Some q ↦ ((e : Refusal) × (r ≡ Err e) × (number_of e ≡ q)) × (after ≡ before)
  | None ↦ (r ≡ Ok (accepted s l call)) × (map shown after ≡ written s l call ++ map shown (drop (length (written s l call)) before))
]

-- the same rows one by one: the plan's row for its node v at place i from 0, and the deletions of a block that keeps v
abbrev pub plan_row : Site → List Block → ℕ → ℕ → Line
plan_row s bs i v = elim (slice_get bs i) [ Some b ↦ (0, b.number, v, node_rack s v) | None ↦ (1, i - length bs + 1, v, node_rack s v) ]

abbrev pub gone_of : Site → Block → ℕ → List Line
gone_of s b v = map (λ w. (2, b.number, w, node_rack s w)) (filter (λ w. not (w == v)) b.copies)
