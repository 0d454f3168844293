-- One more call of a run.
use Rattle.std.proofs.Common.{◌≡◌, ℕ, zero, suc, ◌+◌, ◌<◌, ◌≤◌, List, [], ◌∷◌, ◌++◌, map, length, get_or, take, drop, set, Some, None, Ok, Err, fold, Option, Result, sym, refl, ap, ◌∙◌, subst, ⊎_elim, arith}
use Rattle.std.specs.List.{slice_get}
use Rattle.std.proofs.lemmas.Option.{slice_get-get_or, slice_get_within}
use Rattle.std.proofs.lemmas.List.{take_more, drop-map, drop-set-lt, drop-drop, get_or-map, length-map}
use Rattle.std.proofs.lemmas.Bool.{cases_eq}
use Rattle.site.specs.Site.{Site}
use Rattle.store.specs.declared.types.Row.{Row}
use Rattle.store.specs.declared.types.Answer.{Answer}
use Rattle.store.specs.declared.types.Refusal.{Refusal}
use Rattle.store.specs.declared.types.Call as code
use Rattle.store.specs.Stripes.{Ledger, Call, start}
use Rattle.store.specs.Refusals.{number_of, refused_by}
use Rattle.store.specs.Ledger.{step, ledger}
use Rattle.store.specs.Answers.{Line, shown, accepted, written, Answered}
use Rattle.store.specs.Told.{Since}
use Rattle.store.specs.Table.{call_of}
use Rattle.history.specs.Runs.{calls_of, AnsweredAfter, rows_after, rows_from, rows_left}

nth-same : {X : Type 0} (xs : List X) (i : ℕ) (y z : X) → slice_get (set xs i y) i ≡ Some z → y ≡ z
nth-same [] i y z e = let q : ◌≡◌ {A = ℕ} 0 1 = cc in absurd (omega arith)
nth-same (x ∷ xs) zero y z e = cc
nth-same (x ∷ xs) (suc i) y z e = nth-same xs i y z e

nth-other : {X : Type 0} (xs : List X) (i j : ℕ) (y : X) → (j ≡ i → ⊥) → slice_get (set xs i y) j ≡ slice_get xs j
nth-other [] i j y ne = refl
nth-other (x ∷ xs) zero zero y ne = absurd (ne refl)
nth-other (x ∷ xs) zero (suc j) y ne = refl
nth-other (x ∷ xs) (suc i) zero y ne = refl
nth-other (x ∷ xs) (suc i) (suc j) y ne = nth-other xs i j y (λ e. ne (ap suc e))

-- the answers to the calls before place i
abbrev pub Sofar : Site → ℕ → List Call → ℕ → List (Result Answer Refusal) → Type 0
Sofar s room cs i rs = (j : ℕ) (q : Call) (r : Result Answer Refusal) → j < i → slice_get cs j ≡ Some q → slice_get rs j ≡ Some r → AnsweredAfter s room (take j cs) q r

module _ (s : Site) (room : ℕ) (cs : List Call) (i : ℕ) (h : i < length cs) (q : Call) (is : get_or cs i q ≡ q) where
  pub run-ledger : (l : Ledger) → l ≡ ledger s (take i cs ++ q ∷ []) → l ≡ ledger s (take (i + 1) cs)
  run-ledger l e = e ∙ ap (ledger s) (ap (λ x. take i cs ++ x ∷ []) (sym is) ∙ sym (take_more cs i q h))

  pub run_more : (rs : List (Result Answer Refusal)) (r : Result Answer Refusal) (l : Ledger) (before after : List Row) → Sofar s room cs i rs → Since s (take i cs) q l r before after → length before ≡ room → Sofar s room cs (i + 1) (set rs i r)
  run_more rs r l before after f t n j q' r' k e g =
      ⊎_elim
      (λ same.
      let call-is : slice_get cs i ≡ Some q = slice_get-get_or cs i q h ∙ ap Some is in
      let e' : slice_get cs i ≡ Some q' = ap (slice_get cs) (sym same) ∙ e in
      let eq : q ≡ q' = cc in
      let er : r ≡ r' = nth-same rs i r r' (ap (slice_get (set rs i r)) (sym same) ∙ g) in
      let here : AnsweredAfter s room (take i cs) q r = (before, after, n, t.answered, t.promised) in
      subst (λ x. AnsweredAfter s room (take x cs) q' r') (sym same) (subst (λ x. AnsweredAfter s room (take i cs) q' x) er (subst (λ x. AnsweredAfter s room (take i cs) x r) eq here)))
      (λ ne. f j q' r' (omega arith) e (sym (nth-other rs i j r ne) ∙ g))
      (cases_eq j i)

pub past_more : {X : Type 0} (i : ℕ) (old rs : List X) (y : X) → drop i rs ≡ drop i old → drop (i + 1) (set rs i y) ≡ drop (i + 1) old
past_more i old rs y e = drop-set-lt (i + 1) rs i y (omega arith) ∙ (sym (drop-drop 1 i rs) ∙ (ap (drop 1) e ∙ drop-drop 1 i old))

-- the rows that a call leaves

AnsweredWith : Site → Ledger → Call → Result Answer Refusal → List Row → List Row → Option ℕ → Type 0
AnsweredWith s l call r before after told = elim told [
  | Some q ↦ ((e : Refusal) × (r ≡ Err e) × (number_of e ≡ q)) × (after ≡ before)
  | None ↦ (r ≡ Ok (accepted s l call)) × (map shown after ≡ written s l call ++ map shown (drop (length (written s l call)) before))
]

rows_with : Site → Ledger → Call → List Line → Option ℕ → List Line
rows_with s l call rows told = elim told [ Some q ↦ rows | None ↦ written s l call ++ drop (length (written s l call)) rows ]

pub answered-rows : (s : Site) (l : Ledger) (call : Call) (r : Result Answer Refusal) (before after : List Row) → Answered s l call r before after → map shown after ≡ rows_after s l call (map shown before)
unfolding AnsweredWith rows_with
answered-rows s l call r before after h =
    let P : Option ℕ → Type 0 = λ told. AnsweredWith s l call r before after told → map shown after ≡ rows_with s l call (map shown before) told in
    let both : (told : Option ℕ) → P told = λ told. elim told as P [
      | Some q ↦ (λ h. ap (map shown) h.1)
      | None ↦ (λ h. h.1 ∙ ap (λ x. written s l call ++ x) (sym (drop-map shown (length (written s l call)) before)))
    ] in
    both (refused_by s l call) h

rows-from : (s : Site) (l : Ledger) (cs : List Call) (q : Call) (rows : List Line) → rows_from s l (cs ++ q ∷ []) rows ≡ rows_after s (fold (step s) l cs) q (rows_from s l cs rows)
rows-from s l [] q rows = refl
rows-from s l (c ∷ cs) q rows = rows-from s (step s l c) cs q (rows_after s l c rows)

pub rows_more : (s : Site) (cs : List Call) (i : ℕ) → i < length cs → (q : Call) → get_or cs i q ≡ q → (r : Result Answer Refusal) (before after : List Row) (rows : List Line)
    → Answered s (ledger s (take i cs)) q r before after → map shown before ≡ rows_left s (take i cs) rows → map shown after ≡ rows_left s (take (i + 1) cs) rows
rows_more s cs i h q is r before after rows answered e =
    answered-rows s (ledger s (take i cs)) q r before after answered
    ∙ (ap (rows_after s (ledger s (take i cs)) q) e
    ∙ (sym (rows-from s start (take i cs) q rows)
    ∙ ap (λ x. rows_left s x rows) (ap (λ x. take i cs ++ x ∷ []) (sym is) ∙ sym (take_more cs i q h))))

-- at the end all calls are answered
pub run-all : (s : Site) (room : ℕ) (cs : List Call) (i : ℕ) (rs : List (Result Answer Refusal)) → length cs ≤ i → Sofar s room cs i rs
    → (j : ℕ) (q : Call) (r : Result Answer Refusal) → slice_get cs j ≡ Some q → slice_get rs j ≡ Some r → AnsweredAfter s room (take j cs) q r
run-all s room cs i rs h f j q r e g = f j q r (omega (arith, h, slice_get_within cs j q e)) e g

-- the call at a place, as the rules read it
pub call_at : (cs : List code.Call) (room i : ℕ) (d : code.Call) → i < length cs → get_or (calls_of cs room) i (call_of (get_or cs i d) room) ≡ call_of (get_or cs i d) room
call_at cs room i d h = get_or-map (λ c. call_of c room) cs i d (call_of (get_or cs i d) room) h

pub calls-long : (cs : List code.Call) (room : ℕ) → length (calls_of cs room) ≡ length cs
calls-long cs room = length-map cs (λ c. call_of c room)
