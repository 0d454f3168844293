-- The next line of a run, as the calls that it makes give it.
use Rattle.std.proofs.Common.{◌≡◌, ℕ, ◌≤◌, List, [], ◌∷◌, ◌++◌, length, take, drop, Some, None, Ok, Err, sym, refl, ap, ◌∙◌, subst, arith}
use Rattle.std.proofs.lemmas.List.{take_all}
use Rattle.site.specs.Site.{Site}
use Rattle.text.specs.Faults.{Least}
use Rattle.text.specs.Rows.{left_of, NextLine}
use Rattle.text.specs.Texts.{whole}
use Rattle.text.specs.declared.fault.Fault.{Fault}
use Rattle.text.specs.declared.lines.Line.{Line}
use Rattle.text.specs.declared.lines.Lines.{Lines}
use Rattle.reader.specs.declared.calls.CallLine.{CallLine}
use Rattle.reader.specs.Calls.{CallFault, CallRead}
use Rattle.store.specs.declared.store.Store.{Store}
use Rattle.store.specs.Stripes.{Code, Call}
use Rattle.store.specs.Ledger.{ledger}
use Rattle.store.specs.Table.{ledger_of}
use Rattle.sheet.specs.declared.run.Run.{Run}
use Rattle.sheet.specs.Said.{Stands, Low}
use Rattle.sheet.specs.FaultTexts.{fault_line}
use Rattle.sheet.specs.Runs.{calls_in, Lined}
use Rattle.sheet.specs.Going.{Given, Ended, line_after}
use Rattle.sheet.proofs.Lines.{ledger-more}
use Rattle.sheet.proofs.Goings.{Next, says-call, code_stays, ledger-call, ledger-fault, going_more, going-ended}

-- a text that fits stands whole at the front
fits-length : (was text : List ℕ) (count : ℕ) → length text ≤ 2048 → 2048 ≤ length was → count ≡ length (take (length was) text) → count ≡ length text
fits-length was text count short roomy c = c ∙ ap length (take_all (length was) text (omega arith))

fits_whole : (was text is : List ℕ) (count : ℕ) → length text ≤ 2048 → 2048 ≤ length was → count ≡ length text → is ≡ whole was text → is ≡ text ++ drop count was
fits_whole was text is count short roomy c t = t ∙ ap (λ l. l ++ drop (length text) was) (take_all (length was) text (omega arith)) ∙ ap (λ n. text ++ drop n was) (sym c)

module _ {M : Type 0} (s : Site) (was : Run M) (line : Line) (lines : Lines) (before after : List ℕ) (count : ℕ) (roomy : 2048 ≤ length before) (within : count ≤ length before)
    (next : Next (left_of was.lines) was.lines.number line (left_of lines) lines.number) (short : length line.bytes.now ≤ 65536) where
  pub given-call : (store : Store M) (call : CallLine) → CallRead was.order line.number (take 65536 line.bytes.now) call → Low call.asked × (call.first ≤ 4294967295)
      → ((h : List Call) (c : Call) (o : Code) → Stands call.asked call.first c → (ledger s h).code ≡ Some o → ledger_of was.store ≡ ledger s h → Lined s h c (ledger_of store) count before after)
      → Given s was (record { lines = lines; order = was.order; store = store }) count before after
  given-call store call read low answered =
      record {
        roomy = roomy;
        short = within;
        line = λ p cs same going.
            let n = line.number in
            let read' : CallRead p.order n line.bytes.now call =
            subst (λ (l : List ℕ). CallRead p.order n l call) (take_all 65536 line.bytes.now short) (subst (λ (is : List ℕ). CallRead is n (take 65536 line.bytes.now) call) going.ordered read) in
            let said = says-call p.order n line.bytes.now call.asked call.first going.named read' low.0 low.1 in
            let c = said.0 in
            let h = p.before ++ calls_in cs in
            let o = going.coded.0 in
            let lined : Lined p.site h c (ledger_of store) count before after =
            subst (λ (t : Site). (ledger t h).code ≡ Some o → ledger_of was.store ≡ ledger t h → Lined t h c (ledger_of store) count before after) (sym same) (answered h c o said.1) going.coded.1 going.ledgered in
            let code : (ledger p.site (p.before ++ calls_in (cs ++ (Ok c ∷ [])))).code ≡ Some o =
            ap (λ l. l.code) (ledger-call p cs c ∙ ledger-more p.site h c) ∙ code_stays p.site (ledger p.site h) c o going.coded.1 in
            let long = fits-length before (line_after p cs (Ok c)) count lined.short roomy lined.count_is in (
              Ok c,
              going_more p cs was going line lines store (Ok c) next said.2 (o, code) (lined.ledgered ∙ sym (ledger-call p cs c)),
              long,
              omega (arith, lined.short),
              fits_whole before (line_after p cs (Ok c)) after count lined.short roomy long lined.text,
            );
      }

  pub given-fault : (f : Fault) → Least (CallFault was.order line.number (take 65536 line.bytes.now)) f
      → count ≡ length (take (length before) (fault_line f)) → after ≡ whole before (fault_line f) → length (fault_line f) ≤ 2048
      → Given s was (record { lines = lines; order = was.order; store = was.store }) count before after
  given-fault f least c t few =
      record {
        roomy = roomy;
        short = within;
        line = λ p cs same going.
            let n = line.number in
            let least' : Least (CallFault p.order n line.bytes.now) f =
            subst (λ (l : List ℕ). Least (CallFault p.order n l) f) (take_all 65536 line.bytes.now short) (subst (λ (is : List ℕ). Least (CallFault is n (take 65536 line.bytes.now)) f) going.ordered least) in
            let e = ledger-fault p cs f in
            let long = fits-length before (fault_line f) count few roomy c in (
              Err f,
              going_more p cs was going line lines was.store (Err f) next least' (going.coded.0, ap (λ l. l.code) e ∙ going.coded.1) (going.ledgered ∙ sym e),
              long,
              omega (arith, few),
              fits_whole before (fault_line f) after count few roomy long t,
            );
      }

pub ended : {M : Type 0} (s : Site) (was : Run M) (lines : Lines) (before : List ℕ) → 2048 ≤ length before
    → NextLine (left_of was.lines) was.lines.number None (left_of lines) lines.number
    → Ended s was (record { lines = lines; order = was.order; store = was.store }) before before
ended s was lines before roomy next = record { roomy = roomy; same = refl; all = λ p cs same going. going-ended p cs was going lines next }
