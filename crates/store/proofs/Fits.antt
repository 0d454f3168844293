-- No stripe has more blocks than the code allows.
use Rattle.std.proofs.Common.{◌≡◌, ℕ, zero, suc, ◌<◌, ◌≤◌, Bool, true, false, List, [], ◌∷◌, length, get_or, set, is_some, Some, None, Option, sym, refl, ap, ◌∙◌, arith}
use Rattle.std.proofs.lemmas.List.{length-set}
use Rattle.std.proofs.lemmas.Bool.{eqb-true, leb-true, le-leb, eq-eqb, and_parts, and_from, false≢true, true≢false}
use Rattle.site.specs.declared.Node.{Node}
use Rattle.choices.specs.Choice.{every}
use Rattle.blocks.specs.declared.code.Code.{Code}
use Rattle.store.specs.declared.stripe.Stripe.{Stripe}
use Rattle.store.specs.declared.stripe.Stripe.TheVariants.{Empty, Filling, Sealed}
use Rattle.store.specs.declared.store.Store.{Store}
use Rattle.store.specs.Stripes as led
use Rattle.store.specs.Fitted.{allowed, fitted}
use Rattle.blocks.specs.declared.block.Block.{Block}
use Rattle.store.specs.Table.{helds_of, stripe_of}
use Rattle.store.proofs.Held.{helds-length}

every_set : {X : Type 0} (f : X → Bool) (xs : List X) (i : ℕ) (y : X) → f y ≡ true → every f xs ≡ true → every f (set xs i y) ≡ true
every_set f [] i y h e = refl
every_set f (x ∷ xs) zero y h e = and_from (f y) (every f xs) h (and_parts (f x) (every f xs) e).1
every_set f (x ∷ xs) (suc i) y h e = let p = and_parts (f x) (every f xs) e in and_from (f x) (every f (set xs i y)) p.0 (every_set f xs i y h p.1)

every_more : {X : Type 0} (f g : X → Bool) → ((x : X) → f x ≡ true → g x ≡ true) → (xs : List X) → every f xs ≡ true → every g xs ≡ true
every_more f g h [] e = refl
every_more f g h (x ∷ xs) e = let p = and_parts (f x) (every f xs) e in and_from (g x) (every g xs) (h x p.0) (every_more f g h xs p.1)

every-at : {X : Type 0} (f : X → Bool) (xs : List X) (i : ℕ) (d : X) → i < length xs → every f xs ≡ true → f (get_or xs i d) ≡ true
every-at f [] i d h e = absurd (omega arith)
every-at f (x ∷ xs) zero d h e = (and_parts (f x) (every f xs) e).0
every-at f (x ∷ xs) (suc i) d h e = every-at f xs i d (omega arith) (and_parts (f x) (every f xs) e).1

-- another record in one place
pub fits-put : {M : Type 0} (st : Store M) (r : ℕ) (x : Stripe) → allowed st.code x ≡ true
    → (length (set st.stripes r x) ≡ 32) × (fitted st.code (set st.stripes r x) ≡ true)
fits-put st r x h = (length-set st.stripes r x ∙ st.full, every_set (allowed st.code) st.stripes r x h st.within)

allowed-more : (o : Code) (x : Stripe) → allowed None x ≡ true → allowed (Some o) x ≡ true
allowed-more o Empty h = refl
allowed-more o (Filling bs) h = absurd (false≢true h)
allowed-more o (Sealed bs p) h = absurd (false≢true h)

pub fits-code : {M : Type 0} (st : Store M) (o : Code) → is_some st.code ≡ false → fitted (Some o) st.stripes ≡ true
fits-code st o e = fits-new st.code e st.within
  where
    fits-new : (c : Option Code) → is_some c ≡ false → fitted c st.stripes ≡ true → fitted (Some o) st.stripes ≡ true
    fits-new None e h = every_more (allowed None) (allowed (Some o)) (allowed-more o) st.stripes h
    fits-new (Some u) e h = absurd (true≢false e)

-- empty stripes under any code, filling ones of up to k blocks, and sealed ones of k
pub allowed-empty : (c : Option Code) (x : Stripe) → stripe_of x ≡ led.empty → allowed c x ≡ true
allowed-empty None Empty e = refl
allowed-empty (Some o) Empty e = refl
allowed-empty c (Filling bs) e = cc
allowed-empty c (Sealed bs p) e = cc

module _ (c : Option Code) (o : Code) (is : c ≡ Some o) where
  pub allowed-filling : (x : Stripe) {bs : List led.Block} → stripe_of x ≡ led.filling bs → length bs ≤ o.k → allowed c x ≡ true
  allowed-filling Empty e h = cc
  allowed-filling (Filling cs) {bs} e h = let f : helds_of cs ≡ bs = cc in ap (λ t. allowed t (Filling cs)) is ∙ le-leb (length cs) o.k (omega (arith, helds-length cs, ap length f, h))
  allowed-filling (Sealed cs p) e h = cc

  pub allowed-sealed : (x : Stripe) {bs : List led.Block} {p : List ℕ} → stripe_of x ≡ led.sealed bs p → length bs ≡ o.k → allowed c x ≡ true
  allowed-sealed Empty e h = cc
  allowed-sealed (Filling cs) e h = cc
  allowed-sealed (Sealed cs q) {bs} e h = let f : helds_of cs ≡ bs = cc in ap (λ t. allowed t (Sealed cs q)) is ∙ eq-eqb (length cs) o.k (omega (arith, helds-length cs, ap length f, h))

  pub few : (bs : List Block) → allowed c (Filling bs) ≡ true → length bs ≤ o.k
  few bs h = leb-true (length bs) o.k (ap (λ t. allowed t (Filling bs)) (sym is) ∙ h)

-- a stripe of the store is allowed: a sealed one is full
module _ {M : Type 0} (st : Store M) (r : ℕ) (d : Stripe) (o : Code) (e : st.code ≡ Some o) (h : r < 32) where
  allowed_at : (x : Stripe) → get_or st.stripes r d ≡ x → allowed (Some o) x ≡ true
  allowed_at x f = ap (allowed (Some o)) (sym f) ∙ (ap (λ c. allowed c (get_or st.stripes r d)) (sym e) ∙ every-at (allowed st.code) st.stripes r d (omega (arith, st.full, h)) st.within)

  pub sealed-full : (bs : List Block) (p : List Node) → get_or st.stripes r d ≡ Sealed bs p → length (helds_of bs) ≡ o.k
  sealed-full bs p f = helds-length bs ∙ eqb-true (length bs) o.k (allowed_at (Sealed bs p) f)
