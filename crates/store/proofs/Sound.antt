-- What the ledger of every list of calls is: its code within the limits and with space for it, every stripe's blocks well formed and
-- with a choice, and every plan that of its blocks.
use Rattle.std.proofs.Common.{◌≡◌, ℕ, zero, suc, ◌-◌, ◌<◌, ◌≤◌, Bool, true, false, cond, not, ◌||◌, eqb, ltb, List, [], ◌∷◌, ◌++◌, length, get_or, set, replicate, Some, None, fold, Option, sym, refl, ap, ◌∙◌, subst, arith}
use Rattle.std.specs.List.{AllByRecursion}
use Rattle.std.proofs.ByRecursion.{All-set, All-push}
use Rattle.std.proofs.lemmas.List.{length-set, length_push, map_push}
use Rattle.std.proofs.lemmas.Bool.{ltb-true, ltb-false, leb-false, eqb-false, not-true, not-false, and_parts, or_parts, true≢false}
use Rattle.site.specs.Site.{Site, node_rack}
use Rattle.choices.specs.Choice.{Copies, every, apart, choices}
use Rattle.choices.specs.Room.{space}
use Rattle.choices.specs.Plan.{planned}
use Rattle.blocks.specs.Codes.{Within}
use Rattle.store.specs.Stripes.{Code, Block, Stripe, Ledger, Call, empty, filling, sealed, start, set_up, offer, seal, plan, deletions, standing, release, abandon, blocks_of, is_sealed, stripe, copies_of, core, rest}
use Rattle.store.specs.Refusals.{none, first, checks, fresh, refused_by, on_map, outside}
use Rattle.store.specs.Ledger.{put, noted, code_noted, step, ledger}
use Rattle.store.specs.Promise.{WellFormed}
use Rattle.store.proofs.Coded.{within}
use Rattle.store.proofs.Tells.{coded, uncoded, step-refused, step-noted, step-coded}

pub record CodeSound (s : Site) (o : Code) : Type 0 where
  pub limits : Within o.n o.k o.c
  pub roomy : o.n ≤ space s o.c

pub record BlocksSound (s : Site) (o : Code) (bs : List Block) : Type 0 where
  pub few : length bs ≤ o.k
  pub formed : AllByRecursion (λ b. WellFormed s b.copies) bs
  pub choice : choices s o.c (copies_of bs) ≡ [] → ⊥

-- a plan of its blocks from some start node on the map
abbrev pub PlanOf : Site → Code → List Block → List ℕ → Type 0
PlanOf s o bs p = (v : ℕ) × (v < length s) × (p ≡ planned s o.n o.k o.c (copies_of bs) v)

abbrev pub StripeSound : Site → Code → Stripe → Type 0
StripeSound s o empty = Unit {0}
StripeSound s o (filling bs) = (1 ≤ length bs) × BlocksSound s o bs
StripeSound s o (sealed bs p) = (length bs ≡ o.k) × BlocksSound s o bs × PlanOf s o bs p

abbrev pub CodedSound : Site → Option Code → List Stripe → Type 0
CodedSound s None ss = ss ≡ replicate 32 empty
CodedSound s (Some o) ss = CodeSound s o × AllByRecursion (StripeSound s o) ss

pub record Sound (s : Site) (l : Ledger) : Type 0 where
  pub long : length l.stripes ≡ 32
  pub told : CodedSound s l.code l.stripes

-- lists whose elements all pass
pub all-or : {X : Type 0} (P : X → Type 0) (xs : List X) (i : ℕ) (d : X) → P d → AllByRecursion P xs → P (get_or xs i d)
all-or P [] i d p h = p
all-or P (x ∷ xs) zero d p h = h.0
all-or P (x ∷ xs) (suc i) d p h = all-or P xs i d p h.1

pub all_same : {X : Type 0} (P : X → Type 0) (n : ℕ) (x : X) → P x → AllByRecursion P (replicate n x)
all_same P zero x p = tt
all_same P (suc n) x p = (p, all_same P n x p)

pub every-all : {X : Type 0} (f : X → Bool) (P : X → Type 0) (xs : List X) → ((x : X) → f x ≡ true → P x) → every f xs ≡ true → AllByRecursion P xs
every-all f P [] h e = tt
every-all f P (x ∷ xs) h e = let p = and_parts (f x) (every f xs) e in (h x p.0, every-all f P xs h p.1)

-- a list of checks none of which is met
abbrev pub Unmet : List (Bool × ℕ) → Type 0
Unmet [] = Unit {0}
Unmet (c ∷ more) = (c.0 ≡ false) × Unmet more

unmet-by : (b : Bool) (q : ℕ) (more : Option ℕ) → cond b (Some q) more ≡ None → (b ≡ false) × (more ≡ None)
unmet-by true q more e = let z : ◌≡◌ {A = ℕ} 0 1 = cc in absurd (omega arith)
unmet-by false q more e = (refl, e)

pub unmet : (cs : List (Bool × ℕ)) → first cs ≡ None → Unmet cs
unmet [] e = tt
unmet (c ∷ more) e = let p = unmet-by c.0 c.1 (first more) e in (p.0, unmet more p.1)

met-none : (q : ℕ) → ◌≡◌ {A = Option ℕ} (Some q) None → ⊥
met-none q e = let z : ◌≡◌ {A = ℕ} 0 1 = cc in omega arith

some_first : {A : Type 0} (xs : List A) → none xs ≡ false → xs ≡ [] → ⊥
some_first [] e f = true≢false e
some_first (x ∷ xs) e f = let z : ◌≡◌ {A = ℕ} 0 1 = cc in omega arith

module _ (s : Site) where
  pub formed-of : (o : Code) (x : Stripe) → StripeSound s o x → AllByRecursion (λ b. WellFormed s b.copies) (blocks_of x)
  formed-of o empty h = tt
  formed-of o (filling bs) h = h.1.formed
  formed-of o (sealed bs p) h = h.1.formed

  -- the blocks of a stripe have a choice, also where there are none
  pub choice-of : (o : Code) (x : Stripe) → StripeSound s o x → choices s o.c (copies_of (blocks_of x)) ≡ [] → ⊥
  choice-of o empty h e = let z : ◌≡◌ {A = ℕ} 0 1 = cc in omega arith
  choice-of o (filling bs) h e = h.1.choice e
  choice-of o (sealed bs p) h e = h.1.choice e

  -- a list that passes the checks of an offer
  pub formed-by : (vs : Copies) → (ltb (length vs) 2 || ltb 8 (length vs)) ≡ false → not (every (on_map s) vs) ≡ false → not (apart vs) ≡ false
      → not (every (λ v. not (eqb (node_rack s v) (core s vs))) (rest vs)) ≡ false → WellFormed s vs
  formed-by vs a3 a4 a5 a6 =
      let size = or_parts (ltb (length vs) 2) (ltb 8 (length vs)) a3 in
      record {
        enough = ltb-false (length vs) 2 size.0;
        few = ltb-false 8 (length vs) size.1;
        present = every-all (on_map s) (λ v. v < length s) vs (λ v t. ltb-true v (length s) t) (not-false _ a4);
        differ = not-false _ a5;
        away = every-all (λ v. not (eqb (node_rack s v) (core s vs))) (λ v. node_rack s v ≡ core s vs → ⊥) (rest vs) (λ v t. eqb-false (node_rack s v) (core s vs) (not-true _ t)) (not-false _ a6);
      }

  -- what an offer that is not refused has been checked for
  offer-formed : (o : Code) (l : Ledger) (b : ℕ) (vs : Copies) → first (checks s o l (offer b vs)) ≡ None
      → WellFormed s vs × (length (blocks_of (stripe l (core s vs))) < o.k) × (choices s o.c (copies_of (blocks_of (stripe l (core s vs))) ++ (vs ∷ [])) ≡ [] → ⊥)
  offer-formed o l b vs e =
      let a3 = unmet (checks s o l (offer b vs)) e in
      let a4 = a3.1 in
      let a5 = a4.1 in
      let a6 = a5.1 in
      let a23 = a6.1.1 in
      (formed-by vs a3.0 a4.0 a5.0 a6.0, leb-false o.k (length (blocks_of (stripe l (core s vs)))) a23.0, some_first _ a23.1.0)

  -- one record is another
  put-sound : (o : Code) (l : Ledger) (r : ℕ) (x : Stripe) → l.code ≡ Some o → length l.stripes ≡ 32 → CodeSound s o → AllByRecursion (StripeSound s o) l.stripes → StripeSound s o x → Sound s (put l r x)
  put-sound o l r x c n k h p = record {
    long = length-set l.stripes r x ∙ n;
    told = subst (λ t. CodedSound s t (set l.stripes r x)) (sym c) (k, All-set (StripeSound s o) l.stripes r x p h);
  }

  -- a filling stripe of k blocks
  seal-sound : (o : Code) (x : Stripe) (v : ℕ) → CodeSound s o → StripeSound s o x → is_sealed x ≡ false → o.k ≤ length (blocks_of x) → v < length s
      → StripeSound s o (sealed (blocks_of x) (planned s o.n o.k o.c (copies_of (blocks_of x)) v))
  seal-sound o empty v k h n e m = absurd (omega (arith, k.limits.0, e))
  seal-sound o (filling bs) v k h n e m = (omega (arith, e, h.1.few), h.1, (v, m, refl))
  seal-sound o (sealed bs p) v k h n e m = absurd (true≢false n)

  module _ (l : Ledger) (n : length l.stripes ≡ 32) where
    sound-noted : (o : Code) (call : Call) → l.code ≡ Some o → CodeSound s o → AllByRecursion (StripeSound s o) l.stripes → Sound s l → first (checks s o l call) ≡ None → Sound s (noted s o l call)
    sound-noted o (set_up m k c) e q h all e' = absurd (met-none 21 e')
    sound-noted o (offer b vs) e q h all e' =
        let f = offer-formed o l b vs e' in
        let r = core s vs in
        let x = stripe l r in
        let own = blocks_of x in
        let sx : StripeSound s o x = all-or (StripeSound s o) l.stripes r empty tt h in
        let new : Block = record { number = b; copies = vs } in
        let long = length_push own new in
        put-sound o l r (filling (own ++ new ∷ [])) e n q h (
          omega (arith, long),
          record {
            few = omega (arith, long, f.1);
            formed = All-push (λ b. WellFormed s b.copies) own new (formed-of o x sx) f.0;
            choice = λ z. f.2 (ap (choices s o.c) (sym (map_push (λ y. y.copies) own new)) ∙ z);
          },
        )
    sound-noted o (seal r v) e q h all e' =
        let a7 = unmet (checks s o l (seal r v)) e' in
        let a4 = a7.1 in
        let a26 = a4.1 in
        let a25 = a26.1 in
        let x = stripe l r in
        put-sound o l r _ e n q h (seal-sound o x v q (all-or (StripeSound s o) l.stripes r empty tt h) a26.0 (ltb-false (length (blocks_of x)) o.k a25.0) (ltb-true v (length s) (not-false _ a4.0)))
    sound-noted o (plan r rows) e q h all e' = all
    sound-noted o (deletions r rows) e q h all e' = all
    sound-noted o (standing r vs w) e q h all e' = all
    sound-noted o (release r) e q h all e' = put-sound o l r empty e n q h tt
    sound-noted o (abandon r) e q h all e' = put-sound o l r empty e n q h tt

    sound-coded : (call : Call) → l.stripes ≡ replicate 32 empty → first (fresh s call) ≡ None → Sound s (code_noted l call)
    sound-coded (set_up m k c) z e =
        let a1 = unmet (fresh s (set_up m k c)) e in
        let a2 = a1.1 in
        let o : Code = record { n = m; k = k; c = c } in
        record {
          long = n;
          told = (record { limits = within m k c a1.0; roomy = ltb-false (space s c) m a2.0 }, subst (AllByRecursion (StripeSound s o)) (sym z) (all_same (StripeSound s o) 32 empty tt));
        }
    sound-coded (offer b vs) z e = absurd (met-none 20 e)
    sound-coded (seal r v) z e = absurd (met-none 20 e)
    sound-coded (plan r rows) z e = absurd (met-none 20 e)
    sound-coded (deletions r rows) z e = absurd (met-none 20 e)
    sound-coded (standing r vs w) z e = absurd (met-none 20 e)
    sound-coded (release r) z e = absurd (met-none 20 e)
    sound-coded (abandon r) z e = absurd (met-none 20 e)

  sound-by : (l : Ledger) (call : Call) (t : Option Code) → l.code ≡ t → CodedSound s t l.stripes → Sound s l → refused_by s l call ≡ None → Sound s (step s l call)
  sound-by l call None c k h e =
      subst (Sound s) (sym (step-coded s l call e c)) (sound-coded l h.long call k (sym (uncoded s l call (first (fresh s call)) c refl) ∙ e))
  sound-by l call (Some o) c k h e =
      subst (Sound s) (sym (step-noted s l call o e c)) (sound-noted l h.long o call c k.0 k.1 h (sym (coded s l call o (first (checks s o l call)) c refl) ∙ e))

  sound-step-by : (l : Ledger) (call : Call) (q : Option ℕ) → refused_by s l call ≡ q → Sound s l → Sound s (step s l call)
  sound-step-by l call (Some q) e h = subst (Sound s) (sym (step-refused s l call q e)) h
  sound-step-by l call None e h = sound-by l call l.code refl h.told h e

  pub sound-step : (l : Ledger) (call : Call) → Sound s l → Sound s (step s l call)
  sound-step l call h = sound-step-by l call (refused_by s l call) refl h

  sound-all : (l : Ledger) (calls : List Call) → Sound s l → Sound s (fold (step s) l calls)
  sound-all l [] h = h
  sound-all l (c ∷ cs) h = sound-all (step s l c) cs (sound-step l c h)

  pub ledger-sound : (calls : List Call) → Sound s (ledger s calls)
  ledger-sound calls = sound-all start calls (record { long = refl; told = refl })
