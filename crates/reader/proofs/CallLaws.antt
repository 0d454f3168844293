-- A call's line without fault says its call.
use Rattle.std.proofs.Common.{◌≡◌, ℕ, zero, suc, ◌<◌, true, List, Some, None, Option, unwrap_or, MatchOption, Bor, sym, ap, ◌∙◌, subst, arith}
use Rattle.text.specs.Orders.{elem}
use Rattle.text.specs.Pieces.{parted}
use Rattle.reader.specs.declared.act.Act.{Act}
use Rattle.reader.specs.declared.act.Act.TheVariants as act
use Rattle.reader.specs.declared.calls.Asked.{Asked}
use Rattle.reader.specs.declared.calls.CallLine.{CallLine}
use Rattle.reader.specs.declared.form.Form.TheVariants.{Call}
use Rattle.reader.specs.Letters.{letter, letter_of}
use Rattle.reader.specs.Wants.{Fit, say_of, want_of}
use Rattle.reader.specs.Rows.{RowFault, Clean, named, held}
use Rattle.reader.specs.Names.{call_names, InOrder}
use Rattle.reader.specs.Calls.{call_of, call_act, RestText, call_text, CallText, CallRead}
use Rattle.reader.proofs.WantLaws.{fit-letter}
use Rattle.reader.proofs.FieldLaws.{row_fits, row-text, named-fits}
use Rattle.reader.proofs.NameLaws.{order-names}
use Rattle.reader.proofs.PickLaws.{picks-all}
use Rattle.reader.proofs.CodeLaws.{ReadAs}

-- the call of the letter under `call`
pub act-named : (o : Option (Bor (List ℕ))) (r : Option Act) → MatchOption o (r ≡ None) (λ b. r ≡ letter b.now) → r ≡ call_of (held o)
act-named None r e = e
act-named (Some b) r e = e

-- what is asked is read from the field under `rest`
abbrev pub Said : List ℕ → List (List ℕ) → Act → Asked → Type 0
Said is fs a asked = (f : List ℕ) → named is 2 fs ≡ Some f → Fit (say_of a) f → RestText asked f

same_some : {A : Type 0} (x y : A) → Some x ≡ Some y → x ≡ y
same_some x y e = cc

module _ (is : List ℕ) (n : ℕ) (line : List ℕ) (names : List ℕ) (o : InOrder call_names names is) where
  has : (j : ℕ) → j < 3 → elem j is ≡ true
  has = picks-all 3 is o.all o.once o.names

  -- the letter of a line without fault is known
  known : (p : Option Act) → p ≡ call_of (named is 0 (parted 44 line)) → Clean (RowFault (Call p) is n line) → (a : Act) × (p ≡ Some a) × ((g : List ℕ) → named is 0 (parted 44 line) ≡ Some g → g ≡ letter_of a)
  known p e clean =
      let at = named-fits (Call p) 0 is (parted 44 line) (has 0 (omega arith)) (row_fits (Call p) is n line clean) in
      let l = fit-letter at.0 at.2 in
      (l.0, e ∙ ap call_of at.1 ∙ l.1, λ g h. same_some g at.0 (sym h ∙ at.1) ∙ l.2)

  call-text : (a : Act) (call : CallLine) → Clean (RowFault (Call (Some a)) is n line) → ((g : List ℕ) → named is 0 (parted 44 line) ≡ Some g → g ≡ letter_of a) → call_act call.asked ≡ a → Said is (parted 44 line) a call.asked → ReadAs is (parted 44 line) 1 4294967295 call.first → CallText is line call
  call-text a call clean lettered acts rest first =
      let fits = row_fits (Call (Some a)) is n line clean in
      let at = named-fits (Call (Some a)) 2 is (parted 44 line) (has 2 (omega arith)) fits in
      (at.0, rest at.0 at.1 at.2, row-text (Call (Some a)) (call_text call at.0) is (parted 44 line) o.once fits (λ j g e. said at.0 at.1 j g (order-names call_names names is o j e))) where
        said : (r : List ℕ) → named is 2 (parted 44 line) ≡ Some r → (j : ℕ) (g : List ℕ) → j < 3 → named is j (parted 44 line) ≡ Some g → Fit (want_of (Call (Some a)) j) g → g ≡ call_text call r j
        said r at zero g h e fit = lettered g e ∙ ap letter_of (sym acts)
        said r at (suc zero) g h e fit = first g e fit
        said r at (suc (suc zero)) g h e fit = same_some g r (sym e ∙ at)
        said r at (suc (suc (suc j))) g h e fit = absurd (omega arith)

pub call-read : (is : List ℕ) (n : ℕ) (line : List ℕ) (p : Option Act) (a : Act) (call : CallLine) → p ≡ call_of (named is 0 (parted 44 line)) → Clean (RowFault (Call p) is n line) → a ≡ unwrap_or p act.Plan → call_act call.asked ≡ a → Said is (parted 44 line) a call.asked → ReadAs is (parted 44 line) 1 4294967295 call.first → CallRead is n line call
call-read is n line p a call e clean v acts rest first = record {
  clean = subst (λ q. Clean (RowFault (Call q) is n line)) e clean;
  text = λ order.
      (let k = known is n line order.0 order.1 p e clean in
      let same : a ≡ k.0 = v ∙ ap (λ q. unwrap_or q act.Plan) k.1 in
      call-text is n line order.0 order.1 k.0 call (subst (λ q. Clean (RowFault (Call q) is n line)) k.1 clean) k.2 (acts ∙ same) (subst (λ b. Said is (parted 44 line) b call.asked) same rest) first);
}
