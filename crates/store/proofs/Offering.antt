-- Offering a block: which refusal is met, and what is told.
use Rattle.std.proofs.Common.{◌≡◌, ℕ, ◌<◌, ◌≤◌, true, false, not, ◌||◌, eqb, ltb, List, [], ◌∷◌, ◌++◌, length, Some, None, Ok, Err, Option, Result, sym, refl, ap, ◌∙◌, subst, ⊎_elim, arith}
use Rattle.std.specs.List.{ContainsAt as Has}
use Rattle.std.proofs.ByRecursion.{has_get_or}
use Rattle.std.proofs.lemmas.Bool.{lt-ltb, le-ltb, lt-leb, or_from, ltb-true, and_parts}
use Rattle.site.specs.Site.{Site, Limits, node_rack}
use Rattle.site.specs.declared.Node.{Node}
use Rattle.choices.proofs.Parity.{rack-below}
use Rattle.choices.specs.Choice.{Copies, every, apart, choices}
use Rattle.choices.specs.Tight.{LeastTight}
use Rattle.choices.specs.Hall.{SomeChoice}
use Rattle.choices.proofs.Head.{empty-or}
use Rattle.choices.specs.Plan.{planned}
use Rattle.choices.proofs.Exact.{choices-exact}
use Rattle.blocks.specs.declared.code.Code.{Code}
use Rattle.blocks.specs.declared.block.Block as code
use Rattle.blocks.specs.Blocks as told
use Rattle.blocks.specs.Lists as list
use Rattle.placement.specs.Resolved.{CrowdedOut}
use Rattle.store.specs.declared.types.Answer.{Answer}
use Rattle.store.specs.declared.types.Answer.TheVariants.{Done}
use Rattle.store.specs.declared.types.Refusal.{Refusal}
use Rattle.store.specs.declared.types.Refusal.TheVariants.{NoChoice}
use Rattle.store.specs.declared.store.Store.{Store}
use Rattle.store.specs.Stripes as led
use Rattle.store.specs.Refusals.{none, number_of, on_map, checks, first}
use Rattle.store.specs.Ledger.{put}
use Rattle.store.specs.Promise.{together}
use Rattle.store.specs.Told.{Told, Named, Tried}
use Rattle.store.specs.Table.{held_of, helds_of, ledger_of}
use Rattle.store.proofs.Held.{helds-lists}
use Rattle.store.proofs.Written.{copies_length}
use Rattle.store.proofs.Tells.{nothing, something, coded, code-some, ruled, rack-near, told-refusal, told-done, step-noted, passed, put-done}

-- an offer that has passed the checks before the search, and what the search then found
module _ {M : Type 0} (s : Site) (st : Store M) (b : ℕ) (vs : Copies) (o : Code) (c : st.code ≡ Some o) (enough : 2 ≤ length vs) (few : length vs ≤ 8)
    (a4 : every (on_map s) vs ≡ true) (a5 : apart vs ≡ true) (a6 : every (λ v. not (eqb (node_rack s v) (led.core s vs))) (led.rest vs) ≡ true) (a22 : led.holds (ledger_of st).stripes b ≡ false)
    (below : length (led.blocks_of (led.stripe (ledger_of st) (led.core s vs))) < o.k) where
  abbrev found : List (List ℕ)
  found = choices s o.c (led.copies_of (led.blocks_of (led.stripe (ledger_of st) (led.core s vs))) ++ (vs ∷ []))

  last : (x : Option ℕ) → first ((none found, 24) ∷ []) ≡ x → first (checks s (ruled o) (ledger_of st) (led.offer b vs)) ≡ x
  last x e =
      let a3 : (ltb (length vs) 2 || ltb 8 (length vs)) ≡ false = or_from _ _ (le-ltb (length vs) 2 enough) (le-ltb 8 (length vs) few) in
      let a23 = lt-leb o.k (length (led.blocks_of (led.stripe (ledger_of st) (led.core s vs)))) below in
      rw (a3, a4, a5, a6, a22, a23) e

  pub offer-tried : (r : ℕ) (x : led.Block) (after : Store M) (res : Result Answer Refusal) → r ≡ led.core s vs → x ≡ record { number = b; copies = vs } → Tried s o.c r x st after res → Told s st after (led.offer b vs) res [] []
  offer-tried r x after res er ex t = tried res (subst (λ y. Tried s o.c (led.core s vs) y st after res) ex (subst (λ y. Tried s o.c y x st after res) er t))
    where
      tried : (res : Result Answer Refusal) → Tried s o.c (led.core s vs) (record { number = b; copies = vs }) st after res → Told s st after (led.offer b vs) res [] []
      tried (Ok a) t =
          let no = something found t.0 in
          let pass = passed s st o c (led.offer b vs) (last None (rw no refl)) in
          told-done s st (led.offer b vs) [] after a [] pass t.1 (λ _. refl) (t.2 ∙ sym (step-noted s (ledger_of st) (led.offer b vs) (ruled o) pass (code-some st o c))) t.3
      tried (Err e) t =
          let yes = nothing found t.0 in
          let met : first (checks s (ruled o) (ledger_of st) (led.offer b vs)) ≡ Some (number_of e) = last (Some 24) (rw yes refl) ∙ ap (λ q. Some (number_of q)) (sym t.1.1) in
          let named : Named s (ledger_of st) (led.offer b vs) (Err e) = λ u b' vs' w cu ec er h.
          let same_code = code-some st o c in
          let eu : ruled o ≡ u = cc in
          let ev : vs ≡ vs' = cc in
          let is = t.1.1 in
          let ew : t.1.0 ≡ w = cc in
          let P : led.Code → Copies → ℕ → Type 0 = λ u v w. (choices s u.c (led.copies_of (led.blocks_of (led.stripe (ledger_of st) (led.core s v)))) ≡ [] → ⊥) → LeastTight s u.c (together s (ledger_of st) v) w in
          subst (λ y. P u vs' y) ew (subst (λ y. P u y t.1.0) ev (subst (λ y. P y vs t.1.0) eu t.1.2)) h in
          subst (λ y. Told s st y (led.offer b vs) (Err e) [] []) (sym t.2) (told-refusal s st (led.offer b vs) [] e (coded s (ledger_of st) (led.offer b vs) (ruled o) (Some (number_of e)) (code-some st o c) met) named)

-- where the list of choices is not empty, there is a choice
pub some-choice : (s : Site) (c : ℕ) (bs : List Copies) → (choices s c bs ≡ [] → ⊥) → SomeChoice s c bs
some-choice s c bs ne =
    ⊎_elim (λ e. absurd (ne e)) (λ m. (m.0, (choices-exact s c bs m.0).0 (subst (λ l. Has l m.0) (sym m.2) (has_get_or (m.0 ∷ m.1) 0 m.0 (omega arith))))) (empty-or (choices s c bs))

-- one more block for a stripe
module _ {M : Type 0} (s : Site) (st : Store M) (r c : ℕ) (bs : List code.Block) (own : helds_of bs ≡ led.blocks_of (led.stripe (ledger_of st) r)) (b : code.Block) where
  own-lists : led.copies_of (led.blocks_of (led.stripe (ledger_of st) r)) ++ (held_of b).copies ∷ [] ≡ list.lists_of bs ++ told.copies_of b ∷ []
  own-lists = ap (λ l. l ++ told.copies_of b ∷ []) (ap led.copies_of (sym own) ∙ helds-lists bs)

  pub tried-no : (w : ℕ) → choices s c (list.lists_of bs ++ told.copies_of b ∷ []) ≡ [] → CrowdedOut s c (list.lists_of bs) (told.copies_of b) w → Tried s c r (held_of b) st st (Err (NoChoice w))
  tried-no w e k =
      let lists : led.copies_of (led.blocks_of (led.stripe (ledger_of st) r)) ≡ list.lists_of bs = ap led.copies_of (sym own) ∙ helds-lists bs in (
        ap (choices s c) own-lists ∙ e,
        (w, refl, λ h. subst (λ l. LeastTight s c l w) (sym own-lists) (k.1 (some-choice s c (list.lists_of bs) (λ z. h (ap (choices s c) lists ∙ z))))),
        refl,
      )

  pub tried-choice : (choices s c (list.lists_of bs ++ told.copies_of b ∷ []) ≡ [] → ⊥) → choices s c (led.copies_of (led.blocks_of (led.stripe (ledger_of st) r)) ++ (held_of b).copies ∷ []) ≡ [] → ⊥
  tried-choice ne e = ne (ap (choices s c) (sym own-lists) ∙ e)

-- a stripe of k blocks is sealed
pub seal-told : {M : Type 0} (s : Site) (st after : Store M) (r v : ℕ) (o : Code) (c : st.code ≡ Some o) (near : r < 32) (on : v < length s) (bs : List code.Block) (p : List Node)
    → led.is_sealed (led.stripe (ledger_of st) r) ≡ false → helds_of bs ≡ led.blocks_of (led.stripe (ledger_of st) r) → o.k ≤ length (helds_of bs) → list.node_numbers p ≡ planned s o.n o.k o.c (list.lists_of bs) v
    → ledger_of after ≡ put (ledger_of st) r (led.sealed (helds_of bs) (list.node_numbers p)) → after.map ≡ st.map → Told s st after (led.seal r v) (Ok Done) [] []
seal-told s st after r v o c near on bs p a26 own h q e k =
    let a7 = rack-near r near in
    let a4 = lt-ltb v (length s) on in
    let a25 : ltb (length (led.blocks_of (led.stripe (ledger_of st) r))) o.k ≡ false = le-ltb _ o.k (omega (arith, h, ap length own)) in
    let seal : List led.Block → List ℕ → led.Ledger = λ bs p. put (ledger_of st) r (led.sealed bs p) in
    put-done s st o c (led.seal r v) after r (led.sealed (helds_of bs) (list.node_numbers p)) (rw (a7, a4, a26, a25) refl)
    (ap (λ b. seal b (planned s o.n o.k o.c (led.copies_of b) v)) (sym own) ∙ ap (seal (helds_of bs)) (ap (λ l. planned s o.n o.k o.c l v) (helds-lists bs) ∙ sym q)) refl refl e k

-- the list of a block
pub block-long : (b : code.Block) (vs : List Node) → told.copies_of b ≡ told.numbers vs → (2 ≤ length (told.numbers vs)) × (length (told.numbers vs) ≤ 8)
block-long b vs e = (omega (arith, copies_length b, ap length e, b.enough), omega (arith, copies_length b, ap length e, b.few))

pub core-near : (s : Site) (vs : List ℕ) → Limits s → 0 < length vs → every (on_map s) vs ≡ true → led.core s vs < 32
core-near s [] l h e = absurd (omega arith)
core-near s (v ∷ vs) l h e = rack-below s l v (ltb-true v (length s) (and_parts (on_map s v) (every (on_map s) vs) e).0)
