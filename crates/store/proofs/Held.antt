-- What the records of a store hold, as the ledger reads it.
use Rattle.std.proofs.Common.{◌≡◌, ℕ, ◌<◌, ◌||◌, List, [], ◌∷◌, map, length, get_or, set, refl, ap, ◌∙◌}
use Rattle.std.proofs.lemmas.List.{length-map, map-set, get_or-map}
use Rattle.std.specs.List.{list_any}
use Rattle.choices.specs.Choice.{has}
use Rattle.blocks.specs.declared.block.Block.{Block}
use Rattle.blocks.specs.Lists as list
use Rattle.store.specs.declared.stripe.Stripe.{Stripe}
use Rattle.store.specs.declared.store.Store.{Store}
use Rattle.store.specs.Stripes as led
use Rattle.store.specs.Ledger.{put}
use Rattle.store.specs.Table.{held_of, helds_of, stripe_of, code_of, ledger_of}

pub map-map : {X Y Z : Type 0} (f : Y → Z) (h : X → Y) (xs : List X) → map f (map h xs) ≡ map (λ x. f (h x)) xs
map-map f h [] = refl
map-map f h (x ∷ xs) = ap (λ l. f (h x) ∷ l) (map-map f h xs)

pub helds-numbers : (bs : List Block) → map (λ b. b.number) (helds_of bs) ≡ map (λ b. b.number) bs
helds-numbers bs = map-map (λ b. b.number) held_of bs

pub helds-lists : (bs : List Block) → led.copies_of (helds_of bs) ≡ list.lists_of bs
helds-lists bs = map-map (λ b. b.copies) held_of bs

pub helds-length : (bs : List Block) → length (helds_of bs) ≡ length bs
helds-length bs = length-map bs held_of

-- whether some stripe holds a block of this number
pub holds-any : (ss : List Stripe) (b : ℕ) → list_any (λ s. has b (map (λ x. x.number) (led.blocks_of (stripe_of s)))) ss ≡ led.holds (map stripe_of ss) b
holds-any [] b = refl
holds-any (s ∷ ss) b = ap (λ t. has b (map (λ x. x.number) (led.blocks_of (stripe_of s))) || t) (holds-any ss b)

-- the record at i, as the ledger reads it
pub stripe-at : {M : Type 0} (st : Store M) (i : ℕ) → i < 32 → (d : Stripe) → led.stripe (ledger_of st) i ≡ stripe_of (get_or st.stripes i d)
stripe-at st i within d = let l : i < length st.stripes = rw st.full within in get_or-map stripe_of st.stripes i d led.empty l

-- the ledger once the record at i is another
pub put-at : {M : Type 0} (st : Store M) (i : ℕ) (new : Stripe) {y : led.Stripe} → stripe_of new ≡ y → record { code = code_of st.code; stripes = map stripe_of (set st.stripes i new) } ≡ put (ledger_of st) i y
put-at st i new e =
    let two : List led.Stripe → led.Ledger = λ ss. record { code = code_of st.code; stripes = ss } in
    ap two (map-set stripe_of st.stripes i new ∙ ap (set (map stripe_of st.stripes) i) e)
