-- The calls part of a sheet: what can be wrong with its names line and with a call's line, and what a call's line says.
use Rattle.std.specs.Prelude.{◌≡◌, ℕ, ◌+◌, ◌≤◌, cond, List, [], ◌∷◌, map, Some, None, decimal, Option, ◌==◌}
use Rattle.std.specs.List.{AllByRecursion}
use Rattle.text.specs.Faults.{at}
use Rattle.text.specs.NodeLists.{kept}
use Rattle.text.specs.Pieces.{parted}
use Rattle.text.specs.Spaced.{spaced}
use Rattle.text.specs.declared.fault.Fault.{Fault}
use Rattle.text.specs.declared.fault.FaultKind.TheVariants.{Names, Sheet}
use Rattle.reader.specs.declared.act.Act.{Act}
use Rattle.reader.specs.declared.act.Act.TheVariants as act
use Rattle.reader.specs.declared.calls.Asked.{Asked}
use Rattle.reader.specs.declared.calls.Asked.TheVariants.{Offer, Seal, Plan, Deletions, Release, Abandon}
use Rattle.reader.specs.declared.calls.CallLine.{CallLine}
use Rattle.reader.specs.declared.form.Form.{Form}
use Rattle.reader.specs.declared.form.Form.TheVariants.{Call}
use Rattle.reader.specs.Letters.{letter, letter_of}
use Rattle.reader.specs.Rows.{RowFault, Clean, named}
use Rattle.reader.specs.Names.{call_names, InOrder, NoOrder}

-- a fault of the calls' names line, which has number n and is the first of these lines
abbrev pub CallsFault : ℕ → List (List ℕ) → Fault → Type 0
CallsFault n [] f = f ≡ at Sheet n 1
CallsFault n (l ∷ ls) f = NoOrder call_names l × (f ≡ at Names n 1)

-- a right names line of the calls, and what follows it
abbrev pub CallsRead : ℕ → List (List ℕ) → List ℕ → List (List ℕ) → ℕ → Type 0
CallsRead n [] is after m = ⊥
CallsRead n (l ∷ ls) is after m = InOrder call_names l is × (after ≡ ls) × (m ≡ n + 1)

-- the reader is one line further, where there is one
abbrev pub Further : List (List ℕ) → ℕ → List (List ℕ) → ℕ → Type 0
Further [] n after m = (after ≡ []) × (m ≡ n)
Further (l ∷ ls) n after m = (after ≡ ls) × (m ≡ n + 1)

-- the call that the field under `call` names, if it names one
abbrev pub call_of : Option (List ℕ) → Option Act
call_of None = None
call_of (Some f) = letter f

-- the form of a call's line, by its letter
abbrev pub call_form : List ℕ → List ℕ → Form
call_form is line = Call (call_of (named is 0 (parted 44 line)))

-- a fault of a call's line: what stands under `rest` is judged only where the letter is known
abbrev pub CallFault : List ℕ → ℕ → List ℕ → Fault → Type 0
CallFault is n line f = RowFault (call_form is line) is n line f

abbrev pub call_act : Asked → Act
call_act (Offer list) = act.Offer
call_act (Seal node) = act.Seal
call_act Plan = act.Plan
call_act Deletions = act.Deletions
call_act Release = act.Release
call_act Abandon = act.Abandon

-- the text of what is asked besides the first number: the nodes of an offer, of which the first eight and the number of
-- all are kept, the start node of a seal, and nothing else
abbrev pub RestText : Asked → List ℕ → Type 0
RestText (Offer list) bs = (vs : List ℕ) × AllByRecursion (λ v. v ≤ 65535) vs × (Some list ≡ kept (Some vs)) × (bs ≡ spaced vs)
RestText (Seal node) bs = bs ≡ decimal node
RestText Plan bs = bs ≡ []
RestText Deletions bs = bs ≡ []
RestText Release bs = bs ≡ []
RestText Abandon bs = bs ≡ []

abbrev pub call_text : CallLine → List ℕ → ℕ → List ℕ
call_text call rest i = cond (i == 0) (letter_of (call_act call.asked)) (cond (i == 1) (decimal call.first) rest)

-- the fields are the texts of the call's letter, of its first number and of the rest, in the names' order
abbrev pub CallText : List ℕ → List ℕ → CallLine → Type 0
CallText is line call = (rest : List ℕ) × RestText call.asked rest × (parted 44 line ≡ map (call_text call rest) is)

-- an order of the calls' names
abbrev pub CallOrder : List ℕ → Type 0
CallOrder is = (names : List ℕ) × InOrder call_names names is

-- a call's line without fault; it says the call where the names stand in an order of theirs
pub record CallRead (is : List ℕ) (n : ℕ) (line : List ℕ) (call : CallLine) : Type 0 where
  pub clean : Clean (CallFault is n line)
  pub text : CallOrder is → CallText is line call
