-- The lines of a run, one more at a time.
use Rattle.std.proofs.Common.{◌≡◌, ℕ, suc, ◌<◌, ◌||◌, ltb, List, [], ◌∷◌, ◌++◌, length, take, drop, Some, None, Ok, Err, decimal, fold, Option, sym, refl, ap, ◌∙◌, append_assoc, append-nil, take-append-drop}
use Rattle.std.specs.List.{flat_map}
use Rattle.std.proofs.lemmas.List.Concat.{flat_map-append}
use Rattle.std.proofs.lemmas.List.Sums.{fold-append}
use Rattle.std.proofs.lemmas.Bool.{lt-ltb, or_right, cond-true}
use Rattle.site.specs.Site.{Site}
use Rattle.text.specs.Spaced.{spaced, spaced_by}
use Rattle.store.specs.declared.types.Refusal.TheVariants.{ListLength}
use Rattle.store.specs.Stripes.{Block, Code, Ledger, Call, offer, start}
use Rattle.store.specs.Refusals.{first, checks, refused_by}
use Rattle.store.specs.Ledger.{step, ledger, noted, code_noted}
use Rattle.store.specs.Answers.{accepted, data_rows, parity_rows, plan_rows}
use Rattle.sheet.specs.Replies.{row_text, rows_text}
use Rattle.sheet.specs.Results.{refusal_of, crowd_of, answer_of}
use Rattle.sheet.specs.Said.{Said}
use Rattle.sheet.specs.Runs.{line_for, note_line, lines_from, calls_in}

-- the rows of a plan are told by their nodes

data-said : (s : Site) (bs : List Block) (p : List ℕ) → flat_map (λ r. 32 ∷ row_text r) (data_rows s bs p) ≡ flat_map (λ v. 32 ∷ decimal v) (take (length bs) p)
data-said s [] p = refl
data-said s (b ∷ bs) [] = refl
data-said s (b ∷ bs) (v ∷ p) = ap (λ l. 32 ∷ (decimal v ++ l)) (data-said s bs p)

parity-said : (s : Site) (i : ℕ) (p : List ℕ) → flat_map (λ r. 32 ∷ row_text r) (parity_rows s i p) ≡ flat_map (λ v. 32 ∷ decimal v) p
parity-said s i [] = refl
parity-said s i (v ∷ p) = ap (λ l. 32 ∷ (decimal v ++ l)) (parity-said s (suc i) p)

plan-said : (s : Site) (bs : List Block) (p : List ℕ) → flat_map (λ r. 32 ∷ row_text r) (plan_rows s bs p) ≡ flat_map (λ v. 32 ∷ decimal v) p
plan-said s bs p =
    flat_map-append (λ r. 32 ∷ row_text r) (data_rows s bs p) (parity_rows s 1 (drop (length bs) p))
    ∙ ap (λ l. l ++ flat_map (λ r. 32 ∷ row_text r) (parity_rows s 1 (drop (length bs) p))) (data-said s bs p)
    ∙ ap (λ l. flat_map (λ v. 32 ∷ decimal v) (take (length bs) p) ++ l) (parity-said s 1 (drop (length bs) p))
    ∙ sym (flat_map-append (λ v. 32 ∷ decimal v) (take (length bs) p) (drop (length bs) p))
    ∙ ap (flat_map (λ v. 32 ∷ decimal v)) (take-append-drop (length bs) p)

-- without its first space, a text with a space before each has single spaces between
spaced-tail : {A : Type 0} (text : A → List ℕ) (xs : List A) → spaced_by text xs ≡ drop 1 (flat_map (λ x. 32 ∷ text x) xs)
spaced-tail text [] = refl
spaced-tail text (x ∷ xs) = refl

pub plan-named : (s : Site) (bs : List Block) (p : List ℕ) → rows_text (plan_rows s bs p) ≡ spaced p
plan-named s bs p = spaced-tail row_text (plan_rows s bs p) ∙ ap (drop 1) (plan-said s bs p) ∙ sym (spaced-tail decimal p)

-- the ledger of the calls so far, and one more

pub ledger-more : (s : Site) (calls : List Call) (call : Call) → ledger s (calls ++ (call ∷ [])) ≡ step s (ledger s calls) call
ledger-more s calls call = fold-append (step s) start calls (call ∷ [])

pub lines_noted : (s : Site) (calls : List Call) (cs : List Said) → fold (note_line s) (ledger s calls) cs ≡ ledger s (calls ++ calls_in cs)
lines_noted s calls [] = ap (ledger s) (sym (append-nil calls))
lines_noted s calls (Ok call ∷ cs) =
    ap (λ l. fold (note_line s) l cs) (sym (ledger-more s calls call))
    ∙ lines_noted s (calls ++ (call ∷ [])) cs ∙ ap (ledger s) (append_assoc calls (call ∷ []) (calls_in cs))
lines_noted s calls (Err f ∷ cs) = lines_noted s calls cs

pub lines-append : (s : Site) (l : Ledger) (cs : List Said) (c : Said) → lines_from s l (cs ++ (c ∷ [])) ≡ lines_from s l cs ++ (line_for s (fold (note_line s) l cs) c ∷ [])
lines-append s l [] c = refl
lines-append s l (d ∷ cs) c = ap (λ x. line_for s l d ∷ x) (lines-append s (note_line s l d) cs c)

pub calls-append : (cs : List Said) (call : Call) → calls_in (cs ++ (Ok call ∷ [])) ≡ calls_in cs ++ (call ∷ [])
calls-append [] call = refl
calls-append (Ok d ∷ cs) call = ap (λ x. d ∷ x) (calls-append cs call)
calls-append (Err f ∷ cs) call = calls-append cs call

-- a list of more than eight nodes is refused whatever its nodes are

long-refused : (s : Site) (l : Ledger) (o : Code) (b : ℕ) (vs : List ℕ) → l.code ≡ Some o → 8 < length vs → refused_by s l (offer b vs) ≡ Some 3
long-refused s l o b vs has long =
    ap (λ (code : Option Code). elim code [ None ↦ Some 20 | Some p ↦ first (checks s p l (offer b vs)) ]) has
    ∙ cond-true (ltb (length vs) 2 || ltb 8 (length vs)) (Some 3) _ (or_right (ltb (length vs) 2) (ltb 8 (length vs)) (lt-ltb 8 (length vs) long))

pub long-answer : (s : Site) (l : Ledger) (o : Code) (b : ℕ) (vs : List ℕ) → l.code ≡ Some o → 8 < length vs → answer_of s l (offer b vs) ≡ Err ListLength
long-answer s l o b vs has long =
    ap (λ (told : Option ℕ). elim told [ None ↦ Ok (accepted s l (offer b vs)) | Some q ↦ Err (refusal_of (crowd_of s l (offer b vs)) q) ]) (long-refused s l o b vs has long)

pub long-step : (s : Site) (l : Ledger) (o : Code) (b : ℕ) (vs : List ℕ) → l.code ≡ Some o → 8 < length vs → step s l (offer b vs) ≡ l
long-step s l o b vs has long =
    ap (λ (told : Option ℕ). elim told [ Some q ↦ l | None ↦ elim l.code [ None ↦ code_noted l (offer b vs) | Some p ↦ noted s p l (offer b vs) ] ]) (long-refused s l o b vs has long)
