-- For the code and site of a sheet there is one list of lines.
use Rattle.std.proofs.Common.{◌≡◌, ℕ, ◌+◌, List, [], ◌∷◌, Some, None, Ok, Err, sym, refl, ap, ◌∙◌, subst, inl, inr, arith}
use Rattle.site.specs.Site.{Site}
use Rattle.text.specs.declared.fault.Fault.{Fault}
use Rattle.reader.specs.declared.code.CodeValues.{CodeValues}
use Rattle.reader.specs.Names.{call_names}
use Rattle.reader.specs.Calls.{CallFault, CallsFault, CallsRead, CallOrder}
use Rattle.reader.proofs.NameLaws.{one-order, call-apart}
use Rattle.store.specs.Ledger.{ledger}
use Rattle.sheet.specs.Replies.{fault_text}
use Rattle.sheet.specs.FaultTexts.{fault_line}
use Rattle.sheet.specs.Said.{Said, LineSays, LinesSay}
use Rattle.sheet.specs.Runs.{lines_from}
use Rattle.sheet.specs.Starts.{set_up_call}
use Rattle.sheet.specs.Sheets.{call_lines, calls_at, CallsTold, ToldOne}
use Rattle.laws.proofs.LeastFaults.{least-one}
use Rattle.laws.proofs.OneCall.{one-call}

said-one : (is : List ℕ) (n : ℕ) (l : List ℕ) (c d : Said) → CallOrder is → LineSays is n l c → LineSays is n l d → c ≡ d
said-one is n l (Ok c) (Ok d) order p q = ap Ok (one-call is l c d order p.1 q.1)
said-one is n l (Ok c) (Err g) order p q = absurd (p.0 g q.there)
said-one is n l (Err f) (Ok d) order p q = absurd (q.0 f p.there)
said-one is n l (Err f) (Err g) order p q = ap Err (least-one (CallFault is n l) f g p q)

lines-one : (is : List ℕ) (n : ℕ) (ls : List (List ℕ)) (cs ds : List Said) → CallOrder is → LinesSay is n ls cs → LinesSay is n ls ds → cs ≡ ds
lines-one is n [] [] [] order p q = refl
lines-one is n [] [] (d ∷ ds) order p q = absurd q
lines-one is n [] (c ∷ cs) ds order p q = absurd p
lines-one is n (l ∷ ls) [] ds order p q = absurd p
lines-one is n (l ∷ ls) (c ∷ cs) [] order p q = absurd q
lines-one is n (l ∷ ls) (c ∷ cs) (d ∷ ds) order p q = (λ i. said-one is n l c d order p.0 q.0 i ∷ lines-one is (n + 1) ls cs ds order p.1 q.1 i)

-- a names line has an order or a fault
order-or-fault : (n : ℕ) (ls : List (List ℕ)) (is : List ℕ) (after : List (List ℕ)) (m : ℕ) (f : Fault) → CallsRead n ls is after m → CallsFault n ls f → ⊥
order-or-fault n [] is after m f p q = p
order-or-fault n (l ∷ ls) is after m f p q = q.0 is p.0

-- and one order only
names-one : (n : ℕ) (ls : List (List ℕ)) (is js : List ℕ) (a b : List (List ℕ)) (m k : ℕ) → CallsRead n ls is a m → CallsRead n ls js b k → (is ≡ js) × (a ≡ b) × CallOrder is
names-one n [] is js a b m k p q = absurd p
names-one n (l ∷ ls) is js a b m k p q = (one-order call_names l is js call-apart p.0 q.0, p.1 ∙ sym q.1, (l, p.0))

calls-one : (sheet : List ℕ) (v : CodeValues) (s : Site) (xs ys : List (List ℕ)) → CallsTold sheet v s xs → CallsTold sheet v s ys → xs ≡ ys
calls-one sheet v s xs ys (inl (f, p, e)) (inl (g, q, d)) = e ∙ ap (λ (h : Fault). fault_line h ∷ []) (least-one (CallsFault (calls_at sheet) (call_lines sheet)) f g p q) ∙ sym d
calls-one sheet v s xs ys (inl (f, p, e)) (inr (is, after, cs, read, said, d)) = absurd (order-or-fault (calls_at sheet) (call_lines sheet) is after (calls_at sheet + 1) f read p.there)
calls-one sheet v s xs ys (inr (is, after, cs, read, said, e)) (inl (g, q, d)) = absurd (order-or-fault (calls_at sheet) (call_lines sheet) is after (calls_at sheet + 1) g read q.there)
calls-one sheet v s xs ys (inr (is, after, cs, read, said, e)) (inr (js, later, ds, look, tell, d)) =
    let n = calls_at sheet + 1 in
    let o = names-one (calls_at sheet) (call_lines sheet) is js after later n n read look in
    let tell' : LinesSay is n after ds = subst (λ (ks : List ℕ). LinesSay ks n after ds) (sym o.0) (subst (λ (ls : List (List ℕ)). LinesSay js n ls ds) (sym o.1) tell) in
    e ∙ ap (lines_from s (ledger s (set_up_call v ∷ []))) (lines-one is n after cs ds o.2 said tell') ∙ sym d

pub told-one : ToldOne
told-one sheet v s xs ys (inl (q, p, e)) (inl (r, o, d)) = let same : q ≡ r = let z : Some q ≡ Some r = sym p ∙ o in cc in e ∙ ap (λ (n : ℕ). fault_text n 2 1 ∷ []) same ∙ sym d
told-one sheet v s xs ys (inl (q, p, e)) (inr (o, d)) = absurd (let z : Some q ≡ None = sym p ∙ o in let w : ◌≡◌ {A = ℕ} 0 1 = cc in omega arith)
told-one sheet v s xs ys (inr (p, e)) (inl (r, o, d)) = absurd (let z : Some r ≡ None = sym o ∙ p in let w : ◌≡◌ {A = ℕ} 0 1 = cc in omega arith)
told-one sheet v s xs ys (inr (p, e)) (inr (o, d)) = calls-one sheet v s xs ys e d
