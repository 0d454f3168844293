-- A run that has come so far, and one line further.
use Rattle.std.proofs.Common.{◌≡◌, ℕ, zero, suc, ◌+◌, ◌≤◌, List, [], ◌∷◌, ◌++◌, map, length, take, drop, Some, None, Ok, Err, Option, sym, refl, ap, ◌∙◌, subst, append_assoc, arith}
use Rattle.std.proofs.lemmas.List.{length_push, length-drop}
use Rattle.site.specs.Site.{Site}
use Rattle.text.specs.Rows.{left_of, NextLine}
use Rattle.text.specs.declared.fault.Fault.{Fault}
use Rattle.text.specs.declared.lines.Line.{Line}
use Rattle.text.specs.declared.lines.Lines.{Lines}
use Rattle.reader.specs.declared.calls.Asked.{Asked}
use Rattle.reader.specs.declared.calls.Asked.TheVariants.{Offer, Seal, Plan, Deletions, Release, Abandon}
use Rattle.reader.specs.Calls.{CallOrder, CallRead, call_text}
use Rattle.store.specs.declared.store.Store.{Store}
use Rattle.store.specs.Stripes.{Code, Ledger, Call, set_up, offer, seal, plan, deletions, standing, release, abandon}
use Rattle.store.specs.Refusals.{refused_by}
use Rattle.store.specs.Ledger.{step, ledger, noted, code_noted}
use Rattle.store.specs.Table.{ledger_of}
use Rattle.sheet.specs.declared.run.Run.{Run}
use Rattle.sheet.specs.Said.{Said, Stands, Low, LineSays, LinesSay}
use Rattle.sheet.specs.Runs.{line_for, lines_from, calls_in}
use Rattle.sheet.specs.Going.{Part, Going, line_after}
use Rattle.sheet.proofs.Lines.{calls-append, lines-append, lines_noted}

-- the code stays

noted-code : (s : Site) (o : Code) (l : Ledger) (call : Call) → (noted s o l call).code ≡ l.code
noted-code s o l (set_up n k c) = refl
noted-code s o l (offer b vs) = refl
noted-code s o l (seal r v) = refl
noted-code s o l (plan r rows) = refl
noted-code s o l (deletions r rows) = refl
noted-code s o l (standing r vs w) = refl
noted-code s o l (release r) = refl
noted-code s o l (abandon r) = refl

step_with : Site → Ledger → Call → Option ℕ → Option Code → Ledger
step_with s l call told code = elim told [ Some q ↦ l | None ↦ elim code [ None ↦ code_noted l call | Some o ↦ noted s o l call ] ]

pub code_stays : (s : Site) (l : Ledger) (call : Call) (o : Code) → l.code ≡ Some o → (step s l call).code ≡ Some o
unfolding step_with
code_stays s l call o has =
    let by : (told : Option ℕ) → (step_with s l call told (Some o)).code ≡ Some o =
    λ told. elim told as (λ t. (step_with s l call t (Some o)).code ≡ Some o) [ Some q ↦ has | None ↦ noted-code s o l call ∙ has ] in
    ap (λ (code : Option Code). (step_with s l call (refused_by s l call) code).code) has ∙ by (refused_by s l call)

-- what a call line says

pub says-call : (is : List ℕ) (n : ℕ) (line : List ℕ) (asked : Asked) (first : ℕ) → CallOrder is → CallRead is n line (record { asked = asked; first = first }) → Low asked → first ≤ 4294967295
    → (c : Call) × Stands asked first c × LineSays is n line (Ok c)
says-call is n line (Offer list) first order read low small =
    let t = read.text order in
    let r = t.1 in
    (offer first r.0, (r.0, r.2, refl), (read.clean, record { can = r.1; low = small; fields = t.2 ∙ ap (λ (x : List ℕ). map (call_text (record { asked = Offer list; first = first }) x) is) r.3 }))
says-call is n line (Seal v) first order read low small =
    let t = read.text order in
    (seal first v, refl, (read.clean, record { can = low; low = small; fields = t.2 ∙ ap (λ (x : List ℕ). map (call_text (record { asked = Seal v; first = first }) x) is) t.1 }))
says-call is n line Plan first order read low small =
    let t = read.text order in
    (plan first 112, refl, (read.clean, record { can = refl; low = small; fields = t.2 ∙ ap (λ (x : List ℕ). map (call_text (record { asked = Plan; first = first }) x) is) t.1 }))
says-call is n line Deletions first order read low small =
    let t = read.text order in
    (deletions first 112, refl, (read.clean, record { can = refl; low = small; fields = t.2 ∙ ap (λ (x : List ℕ). map (call_text (record { asked = Deletions; first = first }) x) is) t.1 }))
says-call is n line Release first order read low small =
    let t = read.text order in
    (release first, refl, (read.clean, record { can = tt; low = small; fields = t.2 ∙ ap (λ (x : List ℕ). map (call_text (record { asked = Release; first = first }) x) is) t.1 }))
says-call is n line Abandon first order read low small =
    let t = read.text order in
    (abandon first, refl, (read.clean, record { can = tt; low = small; fields = t.2 ∙ ap (λ (x : List ℕ). map (call_text (record { asked = Abandon; first = first }) x) is) t.1 }))

-- the next line

pub record Next (ls : List (List ℕ)) (n : ℕ) (line : Line) (after : List (List ℕ)) (m : ℕ) : Type 0 where
  pub now_it : List ℕ
  pub later : List (List ℕ)
  pub all : ls ≡ now_it ∷ later
  pub bytes : line.bytes.now ≡ now_it
  pub number : line.number ≡ n
  pub after_it : after ≡ later
  pub next : m ≡ n + 1

pub next-some : (ls : List (List ℕ)) (n : ℕ) (line : Line) (after : List (List ℕ)) (m : ℕ) → NextLine ls n (Some line) after m → Next ls n line after m
next-some [] n line after m h = absurd h
next-some (l ∷ ls) n line after m h = record { now_it = l; later = ls; all = refl; bytes = h.0; number = h.1; after_it = h.2; next = h.3 }

pub next-none : (ls : List (List ℕ)) (n : ℕ) (after : List (List ℕ)) (m : ℕ) → NextLine ls n None after m → (ls ≡ []) × (after ≡ []) × (m ≡ n)
next-none [] n after m h = (refl, h.0, h.1)
next-none (l ∷ ls) n after m h = absurd h

pub one_less : (ls : List (List ℕ)) (n : ℕ) (line : Line) (after : List (List ℕ)) (m : ℕ) → Next ls n line after m → length ls ≡ length after + 1
one_less ls n line after m h = ap length h.all ∙ (let e : suc (length h.later) ≡ length h.later + 1 = omega arith in e ∙ ap (λ k. length k + 1) (sym h.after_it))

-- one more of a list, where the rest of it is known
one_more : (i : ℕ) (ls : List (List ℕ)) (l : List ℕ) (more : List (List ℕ)) → drop i ls ≡ l ∷ more
    → (take (suc i) ls ≡ take i ls ++ (l ∷ [])) × (drop (suc i) ls ≡ more) × (suc i ≤ length ls)
one_more i [] l more e = absurd (omega (arith, ap length e, length-drop {A = List ℕ} i []))
one_more zero (x ∷ ls) l more e =
    let a : x ≡ l = cc in
    let b : ls ≡ more = cc in
    (ap (λ (y : List ℕ). y ∷ []) a, b, omega arith)
one_more (suc i) (x ∷ ls) l more e =
    let h = one_more i ls l more e in
    (ap (λ (y : List (List ℕ)). x ∷ y) h.0, h.1, omega (arith, h.2))

said_more : (is : List ℕ) (n : ℕ) (ls : List (List ℕ)) (cs : List Said) (l : List ℕ) (c : Said) → LinesSay is n ls cs → LineSays is (n + length cs) l c → LinesSay is n (ls ++ (l ∷ [])) (cs ++ (c ∷ []))
said_more is n [] [] l c h k = let z : n + 0 ≡ n = omega arith in (subst (λ (m : ℕ). LineSays is m l c) z k, tt)
said_more is n [] (d ∷ cs) l c h k = absurd h
said_more is n (x ∷ ls) [] l c h k = absurd h
said_more is n (x ∷ ls) (d ∷ cs) l c h k =
    let z : n + suc (length cs) ≡ n + 1 + length cs = omega arith in
    (h.0, said_more is (n + 1) ls cs l c h.1 (subst (λ (m : ℕ). LineSays is m l c) z k))

calls-append-fault : (cs : List Said) (f : Fault) → calls_in (cs ++ (Err f ∷ [])) ≡ calls_in cs
calls-append-fault [] f = refl
calls-append-fault (Ok d ∷ cs) f = ap (λ x. d ∷ x) (calls-append-fault cs f)
calls-append-fault (Err g ∷ cs) f = calls-append-fault cs f

-- the ledger of the calls of one more line
pub ledger-call : (p : Part) (cs : List Said) (call : Call) → ledger p.site (p.before ++ calls_in (cs ++ (Ok call ∷ []))) ≡ ledger p.site ((p.before ++ calls_in cs) ++ (call ∷ []))
ledger-call p cs call = ap (ledger p.site) (ap (λ x. p.before ++ x) (calls-append cs call) ∙ sym (append_assoc p.before (calls_in cs) (call ∷ [])))

pub ledger-fault : (p : Part) (cs : List Said) (f : Fault) → ledger p.site (p.before ++ calls_in (cs ++ (Err f ∷ []))) ≡ ledger p.site (p.before ++ calls_in cs)
ledger-fault p cs f = ap (λ x. ledger p.site (p.before ++ x)) (calls-append-fault cs f)

module _ {M : Type 0} (p : Part) (cs : List Said) (was : Run M) (going : Going p cs was) where
  -- one line further, with what it says and the ledger after it
  pub going_more : (line : Line) (lines : Lines) (store : Store M) (c : Said) → Next (left_of was.lines) was.lines.number line (left_of lines) lines.number
      → LineSays p.order line.number line.bytes.now c
      → ((o : Code) × ((ledger p.site (p.before ++ calls_in (cs ++ (c ∷ [])))).code ≡ Some o))
      → ledger_of store ≡ ledger p.site (p.before ++ calls_in (cs ++ (c ∷ [])))
      → Going p (cs ++ (c ∷ [])) (record { lines = lines; order = was.order; store = store })
  going_more line lines store c next says coded ledgered =
      let n = length cs in
      let one : length (cs ++ (c ∷ [])) ≡ suc n = omega (arith, length_push cs c) in
      let m = one_more n p.lines next.now_it next.later (sym going.here ∙ next.all) in
      let at : line.number ≡ p.number + n = next.number ∙ going.number in
      let here : LineSays p.order (p.number + n) next.now_it c =
      subst (λ (l : List ℕ). LineSays p.order (p.number + n) l c) next.bytes (subst (λ (k : ℕ). LineSays p.order k line.bytes.now c) at says) in
      record {
        named = going.named;
        ordered = going.ordered;
        within = omega (arith, m.2);
        said = subst (λ (ls : List (List ℕ)). LinesSay p.order p.number ls (cs ++ (c ∷ []))) (sym (ap (λ k. take k p.lines) one ∙ m.0))
            (said_more p.order p.number (take n p.lines) cs next.now_it c going.said here);
        here = next.after_it ∙ sym (ap (λ k. drop k p.lines) one ∙ m.1);
        number = omega (arith, next.next, going.number);
        coded = coded;
        ledgered = ledgered;
      }

  -- no line is left
  pub going-ended : (lines : Lines) → NextLine (left_of was.lines) was.lines.number None (left_of lines) lines.number
      → Going p cs (record { lines = lines; order = was.order; store = was.store }) × (length cs ≡ length p.lines)
  going-ended lines next =
      let e = next-none (left_of was.lines) was.lines.number (left_of lines) lines.number next in
      let none : drop (length cs) p.lines ≡ [] = sym going.here ∙ e.0 in (
        record {
          named = going.named;
          ordered = going.ordered;
          within = going.within;
          said = going.said;
          here = e.1 ∙ sym none;
          number = e.2 ∙ going.number;
          coded = going.coded;
          ledgered = going.ledgered;
        },
        omega (arith, going.within, ap length none, length-drop (length cs) p.lines),
      )

pub lines-grow : (p : Part) (cs : List Said) (c : Said)
    → lines_from p.site (ledger p.site p.before) (cs ++ (c ∷ [])) ≡ lines_from p.site (ledger p.site p.before) cs ++ (line_after p cs c ∷ [])
lines-grow p cs c =
    lines-append p.site (ledger p.site p.before) cs c
    ∙ ap (λ l. lines_from p.site (ledger p.site p.before) cs ++ (line_for p.site l c ∷ [])) (lines_noted p.site p.before cs)
