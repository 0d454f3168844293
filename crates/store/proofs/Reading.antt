-- Plan, deletions and standing: which refusal they meet, and what they tell.
use Rattle.std.proofs.Common.{◌≡◌, ℕ, ◌-◌, ◌<◌, ◌≤◌, true, false, ltb, List, ◌++◌, length, drop, Some, None, Ok, sum_by, sym, refl, ap, ◌∙◌, arith}
use Rattle.std.proofs.lemmas.List.{drop-map}
use Rattle.std.proofs.lemmas.Bool.{le-ltb}
use Rattle.site.specs.Site.{Site}
use Rattle.site.specs.declared.Node.{Node}
use Rattle.blocks.specs.declared.block.Block.{Block}
use Rattle.blocks.specs.declared.code.Code.{Code}
use Rattle.blocks.specs.Lists.{node_numbers}
use Rattle.store.specs.declared.types.Row.{Row}
use Rattle.store.specs.declared.types.Answer.TheVariants.{Rows}
use Rattle.store.specs.declared.stripe.Stripe.{Stripe}
use Rattle.store.specs.declared.stripe.Stripe.TheVariants.{Sealed}
use Rattle.store.specs.declared.store.Store.{Store}
use Rattle.store.specs.Stripes as led
use Rattle.store.specs.Refusals.{first, checks}
use Rattle.store.specs.Ledger.{noted}
use Rattle.store.specs.Answers.{Line, shown, lines, plan_rows, gone_rows, accepted, written}
use Rattle.store.specs.Told.{Told}
use Rattle.store.specs.Table.{helds_of, stripe_of, ledger_of}
use Rattle.store.proofs.Tells.{code-some, ruled, rack-near, step-noted, told-done, passed}

-- a call that changes nothing and writes the rows w
rows-told : {M : Type 0} (s : Site) (st : Store M) (o : Code) (c : st.code ≡ Some o) (call : led.Call) (rows new : List Row) (n : ℕ) (w : List Line)
    → first (checks s (ruled o) (ledger_of st) call) ≡ None → w ≡ written s (ledger_of st) call → accepted s (ledger_of st) call ≡ Rows (length (written s (ledger_of st) call)) → noted s (ruled o) (ledger_of st) call ≡ ledger_of st
    → n ≡ length w → (n ≤ length rows → lines new ≡ w ++ drop n (lines rows)) → Told s st st call (Ok (Rows n)) rows new
rows-told s st o c call rows new n w m same a k e f =
    let none = passed s st o c call m in
    let long : n ≡ length (written s (ledger_of st) call) = e ∙ ap length same in
    told-done s st call rows st (Rows n) new none (ap Rows long ∙ sym a)
    (λ room. f (omega (arith, room, long)) ∙ (ap (λ l. l ++ drop n (lines rows)) same ∙ ap (λ j. written s (ledger_of st) call ++ j) (ap (λ j. drop j (lines rows)) long ∙ drop-map shown (length (written s (ledger_of st) call)) rows)))
    (sym k ∙ sym (step-noted s (ledger_of st) call (ruled o) none (code-some st o c))) refl

module _ {M : Type 0} (s : Site) (st : Store M) (r : ℕ) (o : Code) (c : st.code ≡ Some o) (within : r < 32) where
  module _ (x : Stripe) (at : led.stripe (ledger_of st) r ≡ stripe_of x) {bs : List Block} {p : List Node} (e : x ≡ Sealed bs p) where
    is : led.stripe (ledger_of st) r ≡ led.sealed (helds_of bs) (node_numbers p)
    is = at ∙ ap stripe_of e

    shut : led.is_sealed (led.stripe (ledger_of st) r) ≡ true
    shut = ap led.is_sealed is

    pub plan-told : (rows new : List Row) (n : ℕ) → o.n ≤ length rows → n ≡ length (plan_rows s (helds_of bs) (node_numbers p))
        → (n ≤ length rows → lines new ≡ plan_rows s (helds_of bs) (node_numbers p) ++ drop n (lines rows)) → Told s st st (led.plan r (length rows)) (Ok (Rows n)) rows new
    plan-told rows new n h m w =
        let a = rack-near r within in
        let b = shut in
        let k = le-ltb (length rows) o.n h in
        rows-told s st o c (led.plan r (length rows)) rows new n (plan_rows s (helds_of bs) (node_numbers p)) (rw (a, b, k) refl)
        (ap (λ x. plan_rows s (led.blocks_of x) (led.plan_of x)) (sym is)) refl refl m w

    pub deletions-told : (rows new : List Row) (n : ℕ) → sum_by (λ b. length b.copies - 1) (helds_of bs) ≤ length rows → n ≡ length (gone_rows s (helds_of bs) (node_numbers p))
        → (n ≤ length rows → lines new ≡ gone_rows s (helds_of bs) (node_numbers p) ++ drop n (lines rows)) → Told s st st (led.deletions r (length rows)) (Ok (Rows n)) rows new
    deletions-told rows new n h m w =
        let a = rack-near r within in
        let b = shut in
        let k : ltb (length rows) (sum_by (λ b. length b.copies - 1) (led.blocks_of (led.stripe (ledger_of st) r))) ≡ false = ap (λ x. ltb (length rows) (sum_by (λ b. length b.copies - 1) (led.blocks_of x))) is ∙ le-ltb (length rows) _ h in
        rows-told s st o c (led.deletions r (length rows)) rows new n (gone_rows s (helds_of bs) (node_numbers p)) (rw (a, b, k) refl)
        (ap (λ x. gone_rows s (led.blocks_of x) (led.plan_of x)) (sym is)) refl refl m w
