-- The fault that is told is the only one.
use Rattle.std.proofs.Common.{◌≡◌, ℕ, ◌<◌, ◌≤◌, cond, eqb, ◌⊎◌, sym, refl, ap, ◌∙◌, inl, inr, arith}
use Rattle.text.specs.declared.fault.FaultKind.{FaultKind}
use Rattle.text.specs.declared.fault.FaultKind.TheVariants.{Names, Field, Count, Node, Sheet}
use Rattle.text.specs.declared.fault.Fault.{Fault}
use Rattle.text.specs.Faults.{number_of, at, NotAfter, Least}

abbrev kind_at : ℕ → FaultKind
kind_at q = cond (eqb q 10) Names (cond (eqb q 11) Field (cond (eqb q 12) Count (cond (eqb q 13) Node Sheet)))

kind-at : (k : FaultKind) → k ≡ kind_at (number_of k)
kind-at Names = refl
kind-at Field = refl
kind-at Count = refl
kind-at Node = refl
kind-at Sheet = refl

-- by line, column and number
order-one : (a b c d m n : ℕ)
    → ((a < b) ⊎ ((a ≡ b) × ((c < d) ⊎ ((c ≡ d) × (m ≤ n)))))
    → ((b < a) ⊎ ((b ≡ a) × ((d < c) ⊎ ((d ≡ c) × (n ≤ m)))))
    → (a ≡ b) × (c ≡ d) × (m ≡ n)
order-one a b c d m n (inl p) (inl q) = absurd (omega arith)
order-one a b c d m n (inl p) (inr (e, q)) = absurd (omega arith)
order-one a b c d m n (inr (e, p)) (inl q) = absurd (omega arith)
order-one a b c d m n (inr (e, inl p)) (inr (f, inl q)) = absurd (omega arith)
order-one a b c d m n (inr (e, inl p)) (inr (f, inr (g, q))) = absurd (omega arith)
order-one a b c d m n (inr (e, inr (g, p))) (inr (f, inl q)) = absurd (omega arith)
order-one a b c d m n (inr (e, inr (g, p))) (inr (f, inr (h, q))) = (e, g, omega arith)

pub not-after-both : (f g : Fault) → NotAfter f g → NotAfter g f → f ≡ g
not-after-both f g p q =
    let same = order-one f.place.line g.place.line f.place.column g.place.column (number_of f.kind) (number_of g.kind) p q in
    let kinds : f.kind ≡ g.kind = kind-at f.kind ∙ ap kind_at same.2 ∙ sym (kind-at g.kind) in
    λ i. at (kinds i) (same.0 i) (same.1 i)

pub least-one : (P : Fault → Type 0) (f g : Fault) → Least P f → Least P g → f ≡ g
least-one P f g p q = not-after-both f g (p.first g q.there) (q.first f p.there)
