-- A call that answers as the rules say at the ledger of a list of calls keeps the whole promise.
use Rattle.std.proofs.Common.{◌≡◌, ℕ, ◌+◌, ◌-◌, ◌*◌, ◌<◌, ◌≤◌, Bool, true, false, not, ◌||◌, eqb, ltb, leb, List, [], ◌∷◌, ◌++◌, map, length, drop, is_ok, Some, None, Ok, Err, Option, Result, sym, refl, ap, ◌∙◌, subst, ⊎_elim, arith}
use lib.Count.{ones}
use Rattle.std.specs.List.{AllByRecursion}
use Rattle.std.proofs.lemmas.List.{get_or_past, length-map}
use Rattle.std.proofs.lemmas.Bool.{lt-ltb, le-ltb, lt-leb, ne_eqb, or_from, and_from, cases_lt}
use Rattle.site.specs.Site.{Site, Limits, node_rack}
use Rattle.choices.specs.Choice.{Copies, Choice, every, choices}
use Rattle.choices.specs.Tight.{LeastTight}
use Rattle.choices.specs.Survive.{stand, distinct}
use Rattle.choices.proofs.Head.{empty-none, none-empty}
use Rattle.choices.proofs.Parity.{planned-full}
use Rattle.choices.proofs.Survive.{plan-survives}
use Rattle.store.specs.declared.types.Row.{Row}
use Rattle.store.specs.declared.types.Answer.{Answer}
use Rattle.store.specs.declared.types.Answer.TheVariants.{Done, Rows, Standing}
use Rattle.store.specs.declared.types.Refusal.{Refusal}
use Rattle.store.specs.declared.types.Refusal.TheVariants.{OutsideLimits, SpaceBelowN, ListLength, OffMap, NodeTwice, CoreRackAgain, NoSuchRack, NotSetUp, SetUpBefore, BlockHeld, StripeFull, NoChoice, StripeBelowK, Sealed, NotSealed, StripeEmpty, FewRows}
use Rattle.store.specs.Stripes.{Code, Block, Stripe, Ledger, Call, empty, filling, sealed, offer, seal, plan, standing, blocks_of, plan_of, is_sealed, stripe, copies_of, core, rest}
use Rattle.store.specs.Refusals.{none, first, refused_by, number_of, on_map}
use Rattle.store.specs.Answers.{shown, plan_rows, accepted, written, Answered}
use Rattle.store.specs.Promise.{Due, together, Kept}
use Rattle.store.specs.Told.{Named}
use Rattle.store.proofs.Tells.{nothing, something, coded}
use Rattle.store.proofs.Written.{plan-length}
use Rattle.store.proofs.Sound.{Sound, CodeSound, BlocksSound, StripeSound, CodedSound, PlanOf, all-or, choice-of}

-- what an answer is, by the refusal that is met
module _ (s : Site) (l : Ledger) (call : Call) (r : Result Answer Refusal) (before after : List Row) (a : Answered s l call r before after) where
  abbrev By : Option ℕ → Type 0
  By (Some q) = ((e : Refusal) × (r ≡ Err e) × (number_of e ≡ q)) × (after ≡ before)
  By None = (r ≡ Ok (accepted s l call)) × (map shown after ≡ written s l call ++ map shown (drop (length (written s l call)) before))

  by : (q : Option ℕ) → elim q as (λ _. Type 0) [ Some q ↦ ((e : Refusal) × (r ≡ Err e) × (number_of e ≡ q)) × (after ≡ before) | None ↦ (r ≡ Ok (accepted s l call)) × (map shown after ≡ written s l call ++ map shown (drop (length (written s l call)) before)) ] → By q
  by (Some q) x = x
  by None x = x

  pub accepts : refused_by s l call ≡ None → (r ≡ Ok (accepted s l call)) × (map shown after ≡ written s l call ++ map shown (drop (length (written s l call)) before))
  accepts e = subst By e (by (refused_by s l call) a)

  pub refuses : (q : ℕ) → refused_by s l call ≡ Some q → ((e : Refusal) × (r ≡ Err e) × (number_of e ≡ q)) × (after ≡ before)
  refuses q e = subst By e (by (refused_by s l call) a)

-- only refusal 24 has its number
pub only-word : (e : Refusal) → number_of e ≡ 24 → (w : ℕ) × (e ≡ NoChoice w)
only-word OutsideLimits h = absurd (omega (arith, h))
only-word SpaceBelowN h = absurd (omega (arith, h))
only-word ListLength h = absurd (omega (arith, h))
only-word OffMap h = absurd (omega (arith, h))
only-word NodeTwice h = absurd (omega (arith, h))
only-word CoreRackAgain h = absurd (omega (arith, h))
only-word NoSuchRack h = absurd (omega (arith, h))
only-word NotSetUp h = absurd (omega (arith, h))
only-word SetUpBefore h = absurd (omega (arith, h))
only-word BlockHeld h = absurd (omega (arith, h))
only-word StripeFull h = absurd (omega (arith, h))
only-word (NoChoice w) h = (w, refl)
only-word StripeBelowK h = absurd (omega (arith, h))
only-word Sealed h = absurd (omega (arith, h))
only-word NotSealed h = absurd (omega (arith, h))
only-word StripeEmpty h = absurd (omega (arith, h))
only-word FewRows h = absurd (omega (arith, h))

all-every : {X : Type 0} (f : X → Bool) (P : X → Type 0) (xs : List X) → ((x : X) → P x → f x ≡ true) → AllByRecursion P xs → every f xs ≡ true
all-every f P [] h a = refl
all-every f P (x ∷ xs) h a = and_from (f x) (every f xs) (h x a.0) (all-every f P xs h a.1)

-- a rack whose stripe is not empty is one of the 32
near : (l : Ledger) (r : ℕ) (x : Stripe) → length l.stripes ≡ 32 → stripe l r ≡ x → (x ≡ empty → ⊥) → r < 32
near l r x n e ne = ⊎_elim (λ h. h) (λ h. absurd (ne (sym e ∙ get_or_past l.stripes r empty (omega (arith, n, h))))) (cases_lt r 32)

-- the ledger of a list of calls that has the code o
module _ (s : Site) (limits : Limits s) (o : Code) (l : Ledger) (c : l.code ≡ Some o) (sound : Sound s l) where
  both : CodeSound s o × AllByRecursion (StripeSound s o) l.stripes
  both = subst (λ t. CodedSound s t l.stripes) c sound.told

  code : CodeSound s o
  code = both.0

  pub at : (r : ℕ) → StripeSound s o (stripe l r)
  at r = all-or (StripeSound s o) l.stripes r empty tt both.1

  -- a well-formed new block for a stripe below k blocks meets no check but the last
  due : (b : ℕ) (vs : Copies) (x : Option ℕ) → Due s o l b vs → first ((none (choices s o.c (together s l vs)), 24) ∷ []) ≡ x → refused_by s l (offer b vs) ≡ x
  due b vs x d e =
      let f = d.formed in
      let own = blocks_of (stripe l (core s vs)) in
      let a3 : (ltb (length vs) 2 || ltb 8 (length vs)) ≡ false = or_from _ _ (le-ltb (length vs) 2 f.enough) (le-ltb 8 (length vs) f.few) in
      let a4 : every (on_map s) vs ≡ true = all-every (on_map s) (λ v. v < length s) vs (λ v h. lt-ltb v (length s) h) f.present in
      let a5 = f.differ in
      let a6 : every (λ v. not (eqb (node_rack s v) (core s vs))) (rest vs) ≡ true = all-every (λ v. not (eqb (node_rack s v) (core s vs))) (λ v. node_rack s v ≡ core s vs → ⊥) (rest vs) (λ v h. ap not (ne_eqb (node_rack s v) (core s vs) h)) f.away in
      let a22 = d.new in
      let a23 : leb o.k (length own) ≡ false = lt-leb o.k (length own) d.below in
      coded s l (offer b vs) o x c (rw (a3, a4, a5, a6, a22, a23) e)

  -- the plan of a sealed stripe
  pub shut : (r : ℕ) (bs : List Block) (p : List ℕ) → stripe l r ≡ sealed bs p → (length bs ≡ o.k) × BlocksSound s o bs × PlanOf s o bs p
  shut r bs p e = subst (StripeSound s o) e (at r)

  pub whole : (r : ℕ) (bs : List Block) (p : List ℕ) → stripe l r ≡ sealed bs p → length p ≡ o.n
  whole r bs p e =
      let h = shut r bs p e in
      ap length h.2.2 ∙ (planned-full s o.n o.k o.c (copies_of bs) h.2.0 limits code.roomy (omega (arith, code.limits.2)) (length-map bs (λ b. b.copies) ∙ h.0) h.1.choice).0

  far : (r : ℕ) (bs : List Block) (p : List ℕ) → stripe l r ≡ sealed bs p → r < 32
  far r bs p e = near l r (sealed bs p) sound.long e (λ z. let q : ◌≡◌ {A = ℕ} 0 1 = cc in omega arith)

  module _ (call : Call) (r : Result Answer Refusal) (before after : List Row) (a : Answered s l call r before after) (named : Named s l call r) where
    admits : (b : ℕ) (vs : Copies) → call ≡ offer b vs → Due s o l b vs → (us : List ℕ) → Choice s o.c (together s l vs) us → is_ok r ≡ true
    admits b vs e d us h =
        let some' = something (choices s o.c (together s l vs)) (λ z. empty-none s o.c (together s l vs) z us h) in
        let ok = accepts s l (offer b vs) r before after (subst (λ q. Answered s l q r before after) e a) (due b vs None d (rw some' refl)) in
        ap is_ok ok.0

    names : (b : ℕ) (vs : Copies) → call ≡ offer b vs → Due s o l b vs → ((us : List ℕ) → Choice s o.c (together s l vs) us → ⊥) → (w : ℕ) × (r ≡ Err (NoChoice w)) × LeastTight s o.c (together s l vs) w
    names b vs e d h =
        let no' = nothing (choices s o.c (together s l vs)) (none-empty s o.c (together s l vs) h) in
        let q = refuses s l (offer b vs) r before after (subst (λ q. Answered s l q r before after) e a) 24 (due b vs (Some 24) d (rw no' refl)) in
        let w = only-word q.0.0 q.0.2 in
        let is : r ≡ Err (NoChoice w.0) = q.0.1 ∙ ap Err w.1 in
        (w.0, is, named o b vs w.0 c e is (choice-of s o (stripe l (core s vs)) (at (core s vs))))

    seals : (rack v : ℕ) (bs : List Block) → call ≡ seal rack v → v < length s → stripe l rack ≡ filling bs → length bs ≡ o.k → r ≡ Ok Done
    seals rack v bs e m f n =
        let near' = near l rack (filling bs) sound.long f (λ z. let q : ◌≡◌ {A = ℕ} 0 1 = cc in omega arith) in
        let a7 = le-ltb 31 rack (omega (arith, near')) in
        let a4 = lt-ltb v (length s) m in
        let a26 : is_sealed (stripe l rack) ≡ false = ap is_sealed f in
        let a25 : ltb (length (blocks_of (stripe l rack))) o.k ≡ false = le-ltb _ o.k (omega (arith, ap (λ x. length (blocks_of x)) f, n)) in
        (accepts s l (seal rack v) r before after (subst (λ q. Answered s l q r before after) e a) (coded s l (seal rack v) o None c (rw (a7, a4, a26, a25) refl))).0

    writes : (rack : ℕ) (bs : List Block) (p : List ℕ) → call ≡ plan rack (length before) → stripe l rack ≡ sealed bs p → o.n ≤ length before
        → (r ≡ Ok (Rows o.n)) × (map shown after ≡ plan_rows s bs p ++ map shown (drop o.n before))
    writes rack bs p e f room =
        let a7 = le-ltb 31 rack (omega (arith, far rack bs p f)) in
        let a27 : is_sealed (stripe l rack) ≡ true = ap is_sealed f in
        let a29 = le-ltb (length before) o.n room in
        let q = accepts s l (plan rack (length before)) r before after (subst (λ q. Answered s l q r before after) e a) (coded s l (plan rack (length before)) o None c (rw (a7, a27, a29) refl)) in
        let same : plan_rows s (blocks_of (stripe l rack)) (plan_of (stripe l rack)) ≡ plan_rows s bs p = ap (λ x. plan_rows s (blocks_of x) (plan_of x)) f in
        let long : length (plan_rows s (blocks_of (stripe l rack)) (plan_of (stripe l rack))) ≡ o.n = ap length same ∙ (plan-length s bs p ∙ whole rack bs p f) in
        (q.0 ∙ ap (λ n. Ok (Rows n)) long, q.1 ∙ (ap (λ n. plan_rows s (blocks_of (stripe l rack)) (plan_of (stripe l rack)) ++ map shown (drop n before)) long ∙ ap (λ x. x ++ map shown (drop o.n before)) same))

    stands : (rack w : ℕ) (lost : List ℕ) (bs : List Block) (p : List ℕ) → call ≡ standing rack lost w → AllByRecursion (λ v. v < length s) lost → stripe l rack ≡ sealed bs p
        → distinct s lost + o.c * ones w ≤ o.n - o.k
        → (r ≡ Ok (Standing (stand s p lost w))) × (length p ≡ o.n) × (o.k ≤ stand s p lost w)
    stands rack w lost bs p e m f few =
        let a7 = le-ltb 31 rack (omega (arith, far rack bs p f)) in
        let a4 : every (on_map s) lost ≡ true = all-every (on_map s) (λ v. v < length s) lost (λ v h. lt-ltb v (length s) h) m in
        let a27 : is_sealed (stripe l rack) ≡ true = ap is_sealed f in
        let q = accepts s l (standing rack lost w) r before after (subst (λ q. Answered s l q r before after) e a) (coded s l (standing rack lost w) o None c (rw (a7, a4, a27) refl)) in
        let h = shut rack bs p f in
        let k = plan-survives s o.n o.k o.c (copies_of bs) h.2.0 lost w limits code.roomy (omega (arith, code.limits.2)) (length-map bs (λ b. b.copies) ∙ h.0) h.1.choice few in
        (q.0 ∙ ap (λ x. Ok (Standing (stand s (plan_of x) lost w))) f, whole rack bs p f, omega (arith, k, ap (λ x. stand s x lost w) h.2.2))

    pub kept : Kept s o l call r before after
    kept = record { admits = admits; names = names; seals = seals; writes = writes; stands = stands }
