-- A run that has just begun.
use Rattle.std.proofs.Common.{◌≡◌, ℕ, ◌+◌, true, is_err, IsErrAnd, List, [], ◌∷◌, Some, None, Ok, Err, Option, Result, sym, refl, ap, ◌∙◌, subst, arith}
use Rattle.std.proofs.lemmas.Bool.{true≢false}
use Rattle.site.specs.Site.{Site}
use Rattle.text.specs.Rows.{left_of}
use Rattle.text.specs.declared.lines.Lines.{Lines}
use Rattle.reader.specs.declared.code.CodeValues.{CodeValues}
use Rattle.reader.specs.Calls.{CallsRead, CallOrder}
use Rattle.store.specs.declared.store.Store.{Store}
use Rattle.store.specs.declared.types.Row.{Row}
use Rattle.store.specs.declared.types.Answer.{Answer}
use Rattle.store.specs.declared.types.Refusal.{Refusal}
use Rattle.store.specs.Stripes.{Ledger, Call, start}
use Rattle.store.specs.Refusals.{number_of, refused_by}
use Rattle.store.specs.Ledger.{step, code_noted}
use Rattle.store.specs.Answers.{Answered}
use Rattle.store.specs.Table.{ledger_of}
use Rattle.store.specs.Told.{Since}
use Rattle.sheet.specs.declared.run.Run.{Run}
use Rattle.sheet.specs.declared.faults.RunFault.{RunFault}
use Rattle.sheet.specs.declared.faults.RunFault.TheVariants as fault
use Rattle.sheet.specs.Going.{Going}
use Rattle.sheet.specs.Starts.{set_up_call, part_of, Begun}
use Rattle.sheet.proofs.Answering.{AnsweredWith}

accepted-with : (s : Site) (l : Ledger) (call : Call) (a : Answer) (old new : List Row) (told : Option ℕ) → AnsweredWith s l call (Ok a) old new told → told ≡ None
accepted-with s l call a old new None h = refl
accepted-with s l call a old new (Some q) h = absurd (let same = h.0.1 in let z : ◌≡◌ {A = ℕ} 0 1 = cc in omega arith)

refused-with : (s : Site) (l : Ledger) (call : Call) (e : Refusal) (old new : List Row) (told : Option ℕ) → AnsweredWith s l call (Err e) old new told → told ≡ Some (number_of e)
refused-with s l call e old new None h = absurd (let same = h.0 in let z : ◌≡◌ {A = ℕ} 0 1 = cc in omega arith)
refused-with s l call e old new (Some q) h =
    let same = h.0.1 in
    let same-refusal : e ≡ h.0.0 = cc in
    ap Some (sym (ap number_of same-refusal ∙ h.0.2))

pub taken : (s : Site) (l : Ledger) (call : Call) (a : Answer) (old new : List Row) → Answered s l call (Ok a) old new → refused_by s l call ≡ None
taken s l call a old new h = accepted-with s l call a old new (refused_by s l call) h

pub refused : (s : Site) (l : Ledger) (call : Call) (e : Refusal) (old new : List Row) → Answered s l call (Err e) old new → refused_by s l call ≡ Some (number_of e)
refused s l call e old new h = refused-with s l call e old new (refused_by s l call) h

names-read : (n : ℕ) (ls : List (List ℕ)) (is : List ℕ) (after : List (List ℕ)) (m : ℕ) → CallsRead n ls is after m → CallOrder is × (m ≡ n + 1)
names-read n [] is after m h = absurd h
names-read n (l ∷ ls) is after m h = ((l, h.0), h.2)

next-number : (n : ℕ) (ls : List (List ℕ)) (is : List ℕ) (after : List (List ℕ)) (m : ℕ) → CallsRead n ls is after m → CallsRead n ls is after (n + 1)
next-number n [] is after m h = absurd h
next-number n (l ∷ ls) is after m h = (h.0, h.1, refl)

note_with : CodeValues → Option ℕ → Ledger
note_with v told = elim told [ Some q ↦ start | None ↦ code_noted start (set_up_call v) ]

code-noted : (s : Site) (v : CodeValues) → refused_by s start (set_up_call v) ≡ None → (step s start (set_up_call v)).code ≡ Some (record { n = v.n; k = v.k; c = v.c })
unfolding note_with
code-noted s v h = ap (λ told. (note_with v told).code) h

pub begun : {M : Type 0} (s : Site) (v : CodeValues) (n : ℕ) (ls : List (List ℕ)) (is : List ℕ) (lines : Lines) (store : Store M) (a : Answer) (old new : List Row)
    → Since s [] (set_up_call v) (ledger_of store) (Ok a) old new → CallsRead n ls is (left_of lines) lines.number
    → CallsRead n ls is (left_of lines) (n + 1) × (refused_by s start (set_up_call v) ≡ None)
    × Going (part_of s v is (n + 1) (left_of lines)) [] (record { lines = lines; order = is; store = store })
begun s v n ls is lines store a old new since read =
    let none = taken s start (set_up_call v) a old new since.answered in
    let r = names-read n ls is (left_of lines) lines.number read in (
      next-number n ls is (left_of lines) lines.number read,
      none,
      record {
        named = r.0;
        ordered = refl;
        within = omega arith;
        said = tt;
        here = refl;
        number = omega (arith, r.1);
        coded = (record { n = v.n; k = v.k; c = v.c }, code-noted s v none);
        ledgered = since.ledgered;
      },
    )

-- one whose set-up is refused
pub unbegun-refused : {M : Type 0} (s : Site) (v : CodeValues) (ls : List (List ℕ)) (n : ℕ) (r : Result Unit RunFault) (run : Run M) (e : Refusal)
    → (is_err r ≡ true) × IsErrAnd r (λ f. f ≡ fault.SetUp e) → (after : Ledger) (old new : List Row) → Since s [] (set_up_call v) after (Err e) old new → Begun s v ls n r run
unbegun-refused s v ls n (Ok u) run e is after old new since = absurd (true≢false (sym is.0))
unbegun-refused s v ls n (Err f) run e is after old new since =
    subst (λ x. Begun s v ls n (Err x) run) (sym is.1) (refused s start (set_up_call v) e old new since.answered)
