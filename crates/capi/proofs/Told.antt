-- The lines of a sheet, from those of its run or from the fault that ends it.
use Rattle.std.proofs.Common.{◌≡◌, ℕ, ◌+◌, List, [], ◌∷◌, ◌++◌, length, Ok, Err, Result, sym, refl, ap, ◌∙◌, subst, append-nil}
use Rattle.site.specs.Site.{Site}
use Rattle.text.specs.Texts.{Wrote}
use Rattle.text.specs.declared.writer.Writer.{Writer}
use Rattle.reader.specs.declared.code.CodeValues.{CodeValues}
use Rattle.store.specs.Ledger.{ledger}
use Rattle.sheet.specs.FaultTexts.{run_fault_text}
use Rattle.sheet.specs.Going.{Part, Going}
use Rattle.sheet.specs.Runs.{lines_from}
use Rattle.sheet.specs.Sheets.{Says, LinesFor, call_lines, calls_at}
use Rattle.sheet.specs.Starts.{Begun, part_of, set_up_call}
use Rattle.sheet.specs.declared.faults.RunFault.{RunFault}
use Rattle.sheet.specs.declared.run.Run.{Run}
use Rattle.laws.proofs.Wholes.{unbegun-told, whole-told}
use Rattle.capi.specs.Sheets.{LinesPut, RunPut}

-- a sheet with the one line of a fault
pub fault-put : (sheet : List ℕ) (f : RunFault) (was is : Writer) (n : ℕ) → LinesFor sheet (run_fault_text f ∷ []) → Wrote was is (run_fault_text f) → n ≡ length (run_fault_text f) → LinesPut sheet was is n
fault-put sheet f was is n told wrote count =
    let e : run_fault_text f ++ [] ≡ run_fault_text f = append-nil (run_fault_text f) in
    record { lines = run_fault_text f ∷ []; told = told; wrote = subst (λ (t : List ℕ). Wrote was is t) (sym e) wrote; count = count ∙ ap length (sym e) }

module _ {M : Type 0} (sheet : List ℕ) (v : CodeValues) (s site : Site) (ls : List (List ℕ)) (at : ℕ) (run : Run M) (says : Says sheet v s) (same : site ≡ s) (here : ls ≡ call_lines sheet)
    (number : at ≡ calls_at sheet) (was is : Writer) (n : ℕ) where
  begun-here : (r : Result Unit RunFault) → Begun site v ls at r run → Begun s v (call_lines sheet) (calls_at sheet) r run
  begun-here r b =
      let one : Begun s v ls at r run = subst (λ (x : Site). Begun x v ls at r run) same b in
      let two : Begun s v (call_lines sheet) at r run = subst (λ (x : List (List ℕ)). Begun s v x at r run) here one in
      subst (λ (x : ℕ). Begun s v (call_lines sheet) x r run) number two

  -- a run that begins, and whose lines are all put
  pub begun-put : (u : Unit) (end : Run M) → Begun site v ls at (Ok u) run → ((p : Part) → p.site ≡ s → Going p [] run → RunPut p end was is n) → LinesPut sheet was is n
  begun-put u end begun all =
      let b = begun-here (Ok u) begun in
      let put = all (part_of s v b.0 (calls_at sheet + 1) b.1) refl b.4 in
      record {
        lines = lines_from s (ledger s (set_up_call v ∷ [])) put.said;
        told = whole-told end sheet v s b.0 b.1 put.said says b.2 b.3 put.going put.all;
        wrote = put.wrote;
        count = put.count;
      }

  -- and one that does not
  pub unbegun-put : (f : RunFault) → Begun site v ls at (Err f) run → Wrote was is (run_fault_text f) → n ≡ length (run_fault_text f) → LinesPut sheet was is n
  unbegun-put f begun wrote count = fault-put sheet f was is n (unbegun-told run sheet v s f says (begun-here (Err f) begun)) wrote count
