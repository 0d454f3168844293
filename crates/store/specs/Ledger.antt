-- The ledger of a list of calls: what a store over a site holds after them, by the site and the calls alone.
use Rattle.std.specs.Prelude.{ℕ, List, [], ◌∷◌, ◌++◌, Some, None, fold, slice_set}
use Rattle.site.specs.Site.{Site}
use Rattle.choices.specs.Plan.{planned}
use Rattle.store.specs.Stripes.{Code, Stripe, Ledger, Call, empty, filling, sealed, start, set_up, offer, seal, plan, deletions, standing, release, abandon, blocks_of, stripe, copies_of, core}
use Rattle.store.specs.Refusals.{refused_by}

abbrev pub put : Ledger → ℕ → Stripe → Ledger
put l r x = record { code = l.code; stripes = slice_set l.stripes r x }

-- what an accepted call notes
abbrev pub noted : Site → Code → Ledger → Call → Ledger
noted s o l (set_up n k c) = l
noted s o l (offer b vs) = let r = core s vs in put l r (filling (blocks_of (stripe l r) ++ (record { number = b; copies = vs } ∷ [])))
noted s o l (seal r v) = let bs = blocks_of (stripe l r) in put l r (sealed bs (planned s o.n o.k o.c (copies_of bs) v))
noted s o l (plan r rows) = l
noted s o l (deletions r rows) = l
noted s o l (standing r vs w) = l
noted s o l (release r) = put l r empty
noted s o l (abandon r) = put l r empty

abbrev pub code_noted : Ledger → Call → Ledger
code_noted l (set_up n k c) = record { code = Some (record { n = n; k = k; c = c }); stripes = l.stripes }
code_noted l (offer b vs) = l
code_noted l (seal r v) = l
code_noted l (plan r rows) = l
code_noted l (deletions r rows) = l
code_noted l (standing r vs w) = l
code_noted l (release r) = l
code_noted l (abandon r) = l

abbrev pub step : Site → Ledger → Call → Ledger
step s l call = elim (refused_by s l call) [ Some q ↦ l | None ↦ elim l.code [ None ↦ code_noted l call | Some o ↦ noted s o l call ] ]

-- the calls, the first first
abbrev pub ledger : Site → List Call → Ledger
ledger s calls = fold (step s) start calls
