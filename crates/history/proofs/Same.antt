-- Equal ledgers are equal stores, over equal maps.
use Rattle.std.proofs.Common.{◌≡◌, ℕ, true, List, map, length, Some, None, Option, sym, refl, ap, ◌∙◌, subst}
use mathlib.Core.Bool.{Bool-set}
use native.Mathlib.Nat.{ℕ_set}
use Rattle.blocks.specs.declared.block.Block.{Block}
use Rattle.blocks.specs.declared.code.Code.{Code}
use Rattle.blocks.proofs.Same.{same_blocks, same_nodes, same_code, map-one}
use Rattle.store.specs.declared.stripe.Stripe.{Stripe}
use Rattle.store.specs.declared.stripe.Stripe.TheVariants.{Empty, Filling, Sealed}
use Rattle.store.specs.declared.store.Store.{Store}
use Rattle.store.specs.Stripes as led
use Rattle.store.specs.Fitted.{fitted}
use Rattle.store.specs.Table.{held_of, helds_of, stripe_of, code_of, ledger_of}
use Rattle.store.proofs.Held.{map-map}

same-helds : (a b : List Block) → helds_of a ≡ helds_of b → a ≡ b
same-helds a b e =
    let say : led.Block → ℕ × List ℕ = λ h. (h.number, h.copies) in
    same_blocks a b (sym (map-map say held_of a) ∙ (ap (map say) e ∙ map-map say held_of b))

pub same-stripe : (a b : Stripe) → stripe_of a ≡ stripe_of b → a ≡ b
same-stripe Empty Empty e = refl
same-stripe (Filling cs) (Filling bs) e = ap Filling (same-helds cs bs cc)
same-stripe (Sealed cs q) (Sealed bs p) e = ap (λ x. Sealed x q) (same-helds cs bs cc) ∙ ap (Sealed bs) (same_nodes q p cc)
same-stripe a b e = cc

pub same_coded : (a b : Option Code) → code_of a ≡ code_of b → a ≡ b
same_coded None None e = refl
same_coded (Some o) (Some u) e =
    let both : ◌≡◌ {A = led.Code} (record { n = o.n; k = o.k; c = o.c }) (record { n = u.n; k = u.k; c = u.c }) = cc in
    ap Some (same_code o u (ap (λ x. x.n) both) (ap (λ x. x.k) both) (ap (λ x. x.c) both))
same_coded a b e = cc

-- the facts of a store are one, whichever way they were shown
abbrev Facts : Option Code → List Stripe → Type 0
Facts o ss = (length ss ≡ 32) × (fitted o ss ≡ true)

facts-one : (o : Option Code) (ss : List Stripe) (f g : Facts o ss) → f ≡ g
facts-one o ss f g =
    let pair : length ss ≡ 32 → fitted o ss ≡ true → Facts o ss = λ x y. (x, y) in
    ap (λ x. pair x f.1) (ℕ_set _ _ f.0 g.0) ∙ ap (pair g.0) (Bool-set _ _ f.1 g.1)

abbrev made : {M : Type 0} → M → (o : Option Code) (ss : List Stripe) → Facts o ss → Store M
made m o ss f = record { map = m; code = o; stripes = ss; full = f.0; within = f.1 }

pub same_store : {M : Type 0} (a b : Store M) → a.map ≡ b.map → ledger_of a ≡ ledger_of b → a ≡ b
same_store {M} a b m e =
    let o = same_coded a.code b.code (ap (λ l. l.code) e) in
    let t = map-one stripe_of same-stripe a.stripes b.stripes (ap (λ l. l.stripes) e) in
    let fa : Facts a.code a.stripes = (a.full, a.within) in
    let P : Option Code → Type 0 = λ c. (f : Facts c a.stripes) → made a.map a.code a.stripes fa ≡ made a.map c a.stripes f in
    let Q : List Stripe → Type 0 = λ ss. (f : Facts b.code ss) → made a.map a.code a.stripes fa ≡ made a.map b.code ss f in
    let one : P a.code = λ f. ap (made a.map a.code a.stripes) (facts-one a.code a.stripes fa f) in
    let two : P b.code = subst P o one in
    let three : Q b.stripes = subst Q t two in
    three (b.full, b.within) ∙ ap (λ x. made x b.code b.stripes (b.full, b.within)) m
