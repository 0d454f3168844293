-- How a call's contract is put together: from the refusal that it meets, or from what it notes.
use Rattle.std.proofs.Common.{◌≡◌, ℕ, ◌<◌, ◌≤◌, Bool, true, false, eqb, ltb, List, [], ◌∷◌, ◌++◌, map, length, drop, Some, None, Ok, Err, Option, Result, sym, refl, ap, ◌∙◌, arith}
use Rattle.std.proofs.lemmas.Bool.{false≢true, lt-ltb, le-ltb}
use Rattle.site.specs.Site.{Site}
use Rattle.blocks.specs.declared.code.Code.{Code}
use Rattle.store.specs.declared.types.Row.{Row}
use Rattle.store.specs.declared.types.Answer.{Answer}
use Rattle.store.specs.declared.types.Answer.TheVariants.{Done}
use Rattle.store.specs.declared.types.Refusal.{Refusal}
use Rattle.store.specs.declared.store.Store.{Store}
use Rattle.store.specs.Stripes as led
use Rattle.store.specs.Stripes.{Ledger, Call}
use Rattle.store.specs.Refusals.{none, first, checks, fresh, refused_by, number_of}
use Rattle.store.specs.Ledger.{put, noted, code_noted, step}
use Rattle.store.specs.Answers.{accepted, written, shown}
use Rattle.store.specs.Told.{Told, Answering, Named}
use Rattle.store.specs.Table.{code_of, ledger_of}

module _ (s : Site) (l : Ledger) (call : Call) where
  pub coded : (o : led.Code) (x : Option ℕ) → l.code ≡ Some o → first (checks s o l call) ≡ x → refused_by s l call ≡ x
  coded o x e f = ap (λ (t : Option led.Code). elim t as (λ _. Option ℕ) [ None ↦ first (fresh s call) | Some o ↦ first (checks s o l call) ]) e ∙ f

  pub uncoded : (x : Option ℕ) → l.code ≡ None → first (fresh s call) ≡ x → refused_by s l call ≡ x
  uncoded x e f = ap (λ (t : Option led.Code). elim t as (λ _. Option ℕ) [ None ↦ first (fresh s call) | Some o ↦ first (checks s o l call) ]) e ∙ f

  abbrev step_result : Option ℕ → Option led.Code → Ledger
  step_result (Some q) t = l
  step_result None None = code_noted l call
  step_result None (Some o) = noted s o l call

  step_by : (q : Option ℕ) (t : Option led.Code) → elim q as (λ _. Ledger) [ Some _ ↦ l | None ↦ elim t as (λ _. Ledger) [ None ↦ code_noted l call | Some o ↦ noted s o l call ] ] ≡ step_result q t
  step_by (Some q) t = refl
  step_by None None = refl
  step_by None (Some o) = refl

  pub step-refused : (q : ℕ) → refused_by s l call ≡ Some q → step s l call ≡ l
  step-refused q e = step_by (refused_by s l call) l.code ∙ ap (λ x. step_result x l.code) e

  pub step-noted : (o : led.Code) → refused_by s l call ≡ None → l.code ≡ Some o → step s l call ≡ noted s o l call
  step-noted o e f = step_by (refused_by s l call) l.code ∙ (ap (λ x. step_result x l.code) e ∙ ap (step_result None) f)

  pub step-coded : refused_by s l call ≡ None → l.code ≡ None → step s l call ≡ code_noted l call
  step-coded e f = step_by (refused_by s l call) l.code ∙ (ap (λ x. step_result x l.code) e ∙ ap (step_result None) f)

abbrev pub is_offer : Call → Bool
is_offer (led.set_up n k c) = false
is_offer (led.offer b vs) = true
is_offer (led.seal r v) = false
is_offer (led.plan r room) = false
is_offer (led.deletions r room) = false
is_offer (led.standing r vs w) = false
is_offer (led.release r) = false
is_offer (led.abandon r) = false

-- nor does another call than an offer
pub unnamed-call : (s : Site) (l : Ledger) (call : Call) (r : Result Answer Refusal) → is_offer call ≡ false → Named s l call r
unnamed-call s l call r none o b vs w c e f h = absurd (false≢true (sym none ∙ ap is_offer e))

abbrev pub is_word : Result Answer Refusal → Bool
is_word (Ok a) = false
is_word (Err e) = eqb (number_of e) 24

-- only a refused offer has a word
pub unnamed : (s : Site) (l : Ledger) (call : Call) (r : Result Answer Refusal) → is_word r ≡ false → Named s l call r
unnamed s l call r none o b vs w c e f h = absurd (false≢true (sym none ∙ ap is_word f))

module _ {M : Type 0} (s : Site) (st : Store M) (call : Call) (rows : List Row) where
  pub told-refusal : (e : Refusal) → refused_by s (ledger_of st) call ≡ Some (number_of e) → Named s (ledger_of st) call (Err e) → Told s st st call (Err e) rows rows
  told-refusal e m n = record {
    answers = rw (m, Answering) ((e, refl, refl), refl);
    names = n;
    noted = sym (step-refused s (ledger_of st) call (number_of e) m);
    kept = refl;
    refused = λ _. (refl, refl);
  }

  pub told-done : (after : Store M) (a : Answer) (new : List Row) → refused_by s (ledger_of st) call ≡ None → a ≡ accepted s (ledger_of st) call
      → (length (written s (ledger_of st) call) ≤ length rows → map shown new ≡ written s (ledger_of st) call ++ map shown (drop (length (written s (ledger_of st) call)) rows))
      → ledger_of after ≡ step s (ledger_of st) call → after.map ≡ st.map → Told s st after call (Ok a) rows new
  told-done after a new m e w d k = record {
    answers = rw (m, Answering) (ap Ok e, w);
    names = unnamed s (ledger_of st) call (Ok a) refl;
    noted = d;
    kept = k;
    refused = λ e. absurd (false≢true e);
  }

-- whether a list is empty, as a test
pub nothing : {A : Type 0} (xs : List A) → xs ≡ [] → none xs ≡ true
nothing xs e = ap none e

pub something : {A : Type 0} (xs : List A) → (xs ≡ [] → ⊥) → none xs ≡ false
something [] ne = absurd (ne refl)
something (x ∷ xs) ne = refl

-- the racks
pub rack-far : (r : ℕ) → 32 ≤ r → ltb 31 r ≡ true
rack-far r h = lt-ltb 31 r (omega arith)

pub rack-near : (r : ℕ) → r < 32 → ltb 31 r ≡ false
rack-near r h = le-ltb 31 r (omega arith)

-- the code of a store is the ledger's
abbrev pub ruled : Code → led.Code
ruled o = record { n = o.n; k = o.k; c = o.c }

pub code-some : {M : Type 0} (st : Store M) (o : Code) → st.code ≡ Some o → (ledger_of st).code ≡ Some (ruled o)
code-some st o e = ap code_of e

module _ {M : Type 0} (s : Site) (st : Store M) (o : Code) (c : st.code ≡ Some o) (call : Call) where
  -- a call that all its checks pass
  pub passed : first (checks s (ruled o) (ledger_of st) call) ≡ None → refused_by s (ledger_of st) call ≡ None
  passed m = coded s (ledger_of st) call (ruled o) None (code-some st o c) m

  -- a stripe that is put in its rack's place
  pub put-done : (after : Store M) (r : ℕ) (y : led.Stripe) → first (checks s (ruled o) (ledger_of st) call) ≡ None → noted s (ruled o) (ledger_of st) call ≡ put (ledger_of st) r y
      → accepted s (ledger_of st) call ≡ Done → written s (ledger_of st) call ≡ [] → ledger_of after ≡ put (ledger_of st) r y → after.map ≡ st.map → Told s st after call (Ok Done) [] []
  put-done after r y m n a w e k =
      let none = passed m in
      told-done s st call [] after Done [] none (sym a) (λ _. rw w refl) (e ∙ (sym n ∙ sym (step-noted s (ledger_of st) call (ruled o) none (code-some st o c)))) k
