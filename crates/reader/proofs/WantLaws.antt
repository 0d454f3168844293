-- What is read from a field that fits.
use Rattle.std.proofs.Common.{◌≡◌, ℕ, ◌≤◌, List, [], ◌∷◌, Some, None, Ok, decimal, Option, unwrap_or, sym, refl, ap, ◌∙◌, ⊎_elim, arith}
use Rattle.std.proofs.lemmas.Bool.Decides.{nat_tests}
use Rattle.text.specs.NodeLists.{kept, Listed}
use Rattle.text.specs.Spaced.{spaced}
use Rattle.std.specs.List.{AllByRecursion}
use Rattle.text.specs.declared.nodes.NodeList.{NodeList}
use Rattle.text.proofs.NumberLaws.{exact-is}
use Rattle.text.specs.declared.fault.FaultKind.TheVariants as kind
use Rattle.reader.specs.Letters.{letter_of, letter, byte_act, Lettered}
use Rattle.reader.specs.declared.act.Act.{Act}
use Rattle.reader.specs.declared.act.Act.TheVariants.{Offer, Seal, Plan, Deletions, Release, Abandon}
use Rattle.reader.specs.declared.form.Want.TheVariants.{Next, Letter, Nodes, Nothing}
use Rattle.reader.specs.Wants.{Fit, Judged}

-- the number of a node line
pub no_such : (bs : List ℕ) (v : ℕ) → bs ≡ decimal v → v ≤ 4294967295 → (u : ℕ) → bs ≡ decimal u → u ≤ 4294967295 → u ≡ v
no_such bs v e h u f k =
    let p = exact-is 4294967295 bs (Some v) (omega arith) (h, e) in
    let q = exact-is 4294967295 bs (Some u) (omega arith) (k, f) in
    cc

pub next-right : (count : ℕ) (bs : List ℕ) (v : ℕ) → v ≤ 4294967295 → bs ≡ decimal v → v ≡ count → v ≤ 255 → Judged (Next count) bs (Ok tt)
next-right count bs v h e is le =
    λ k m. ⊎_elim (λ p. p.1 v h e) (λ p.
    let same = no_such bs v e h p.1.0 p.1.2 p.1.1 in
    ⊎_elim (λ q. q (same ∙ is)) (λ q. omega (arith, q, same, le)) p.1.3) m

pub letter-back : (a : Act) → letter (letter_of a) ≡ Some a
letter-back Offer = refl
letter-back Seal = refl
letter-back Plan = refl
letter-back Deletions = refl
letter-back Release = refl
letter-back Abandon = refl

byte_of : (b : ℕ) (a : Act) → byte_act b ≡ Some a → b ∷ [] ≡ letter_of a
byte_of b a e = grind (arith, nat_tests)

letter-of : (bs : List ℕ) (a : Act) → letter bs ≡ Some a → bs ≡ letter_of a
letter-of [] a e = let z : ◌≡◌ {A = ℕ} 0 1 = cc in absurd (omega arith)
letter-of (b ∷ []) a e = byte_of b a e
letter-of (b ∷ c ∷ bs) a e = let z : ◌≡◌ {A = ℕ} 0 1 = cc in absurd (omega arith)

pub lettered : (bs : List ℕ) (r : Option Act) → r ≡ letter bs → Lettered bs r
lettered bs None e = λ a is. (let f = letter-back a in let g = ap letter is in let z : ◌≡◌ {A = ℕ} 0 1 = cc in omega arith)
lettered bs (Some a) e = letter-of bs a (sym e)

-- a field that fits is the text of the nodes that are read from it, of a call's letter, or empty
pub fit-nodes : (bs : List ℕ) (o : Option (List ℕ)) (res : Option NodeList) (r none : NodeList) → Listed bs o → res ≡ kept o → r ≡ unwrap_or res none → (f : List ℕ) → bs ≡ f → Fit Nodes f → (vs : List ℕ) × AllByRecursion (λ v. v ≤ 65535) vs × (Some r ≡ kept (Some vs)) × (f ≡ spaced vs)
fit-nodes bs None res r none l e g f is fits = absurd (fits kind.Field (refl, λ vs a h. l vs a (is ∙ h)))
fit-nodes bs (Some vs) res r none l e g f is fits = (vs, l.0, ap Some (g ∙ ap (λ o. unwrap_or o none) e), sym is ∙ l.1)

pub fit-letter : (f : List ℕ) → Fit Letter f → (a : Act) × (letter f ≡ Some a) × (f ≡ letter_of a)
fit-letter f fits = by (letter f) refl where
  by : (o : Option Act) → letter f ≡ o → (a : Act) × (letter f ≡ Some a) × (f ≡ letter_of a)
  by None e = absurd (fits kind.Field (refl, lettered f None (sym e)))
  by (Some a) e = (a, e, lettered f (Some a) (sym e))

pub fit-nothing : (f : List ℕ) → Fit Nothing f → f ≡ []
fit-nothing [] fits = refl
fit-nothing (b ∷ f) fits = absurd (fits kind.Field (refl, λ e. let z : ◌≡◌ {A = ℕ} 0 1 = cc in omega arith))
