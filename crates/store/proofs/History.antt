-- From what each call tells to what is told after any list of calls.
use Rattle.std.proofs.Common.{◌≡◌, ℕ, suc, ◌-◌, ◌<◌, ◌≤◌, Bool, true, false, cond, not, ◌||◌, eqb, List, [], ◌∷◌, ◌++◌, map, length, get_or, drop, Some, None, Ok, Err, sum_by, filter, Option, Result, sym, refl, ap, ◌∙◌, subst, ⊎_elim, arith}
use Rattle.std.specs.List.{ContainsAt as Has}
use Rattle.std.proofs.lemmas.List.{length-map, length-append, get_or_append_left}
use Rattle.std.proofs.ByRecursion.{has_get_or}
use Rattle.std.proofs.lemmas.List.Sums.{sum_by-cons, fold_push}
use Rattle.std.proofs.lemmas.Bool.{ltb-false, eq-eqb, ne_eqb, cases_eq, not-false, false≢true}
use Rattle.site.specs.Site.{Site, Limits, node_rack}
use Rattle.choices.specs.Choice.{Choice, has, choices}
use Rattle.choices.specs.Plan.{first_of, parity, round}
use Rattle.choices.proofs.Exact.{choices-exact}
use Rattle.store.specs.declared.types.Row.{Row}
use Rattle.store.specs.declared.types.Answer.{Answer}
use Rattle.store.specs.declared.types.Refusal.{Refusal}
use Rattle.store.specs.declared.types.Call as code
use Rattle.store.specs.declared.types.Call.TheVariants as call
use Rattle.store.specs.declared.store.Store.{Store}
use Rattle.store.specs.Stripes.{Code, Block, Stripe, Ledger, Call, empty, filling, sealed, start, set_up, offer, seal, plan, deletions, standing, release, abandon, blocks_of, plan_of, is_sealed, stripe, copies_of}
use Rattle.store.specs.Refusals.{first, checks, refused_by, number_of}
use Rattle.store.specs.Ledger.{step, ledger}
use Rattle.store.specs.Answers.{Line, shown, plan_rows, gone_rows, accepted, written, Answered}
use Rattle.store.specs.Told.{Answering, Named, Told, Since}
use Rattle.store.specs.Table.{ledger_of, call_of}
use Rattle.store.proofs.Tells.{coded, uncoded}
use Rattle.store.proofs.Written.{plan-length}
use Rattle.store.proofs.Sound.{Sound, unmet, ledger-sound}
use Rattle.store.proofs.Keeps.{kept, whole, shut}

kept_less : (v : ℕ) (xs : List ℕ) → length (filter (λ w. not (eqb w v)) xs) ≤ length xs
kept_less v [] = omega arith
kept_less v (x ∷ xs) =
    let ih = kept_less v xs in
    let P : Bool → Type 0 = λ b. length (cond (not b) (x ∷ filter (λ w. not (eqb w v)) xs) (filter (λ w. not (eqb w v)) xs)) ≤ suc (length xs) in
    elim (eqb x v) as P [ true ↦ omega (arith, ih) | false ↦ omega (arith, ih) ]

-- a list that has v loses at least one without it
kept-one : (v : ℕ) (xs : List ℕ) → has v xs ≡ true → length (filter (λ w. not (eqb w v)) xs) ≤ length xs - 1
kept-one v [] e = absurd (false≢true e)
kept-one v (x ∷ xs) e =
    ⊎_elim
    (λ same. let t = eq-eqb x v same in rw t (omega (arith, kept_less v xs)))
    (λ ne. let t = ne_eqb x v ne in let u : eqb v x ≡ false = ne_eqb v x (λ q. ne (sym q)) in let h : has v xs ≡ true = ap (λ b. b || has v xs) (sym u) ∙ e in
    rw t (omega (arith, kept-one v xs h, some_in v xs h)))
    (cases_eq x v)
  where
    some_in : (v : ℕ) (xs : List ℕ) → has v xs ≡ true → 1 ≤ length xs
    some_in v [] e = absurd (false≢true e)
    some_in v (x ∷ xs) e = omega arith

-- each block keeps one of its copies
abbrev pub Listed : List Block → List ℕ → Type 0
Listed bs p = (i : ℕ) → i < length bs → i < length p → has (get_or p i 0) (get_or (copies_of bs) i []) ≡ true

gone-fits : (s : Site) (bs : List Block) (p : List ℕ) → Listed bs p → length (gone_rows s bs p) ≤ sum_by (λ b. length b.copies - 1) bs
gone-fits s [] p h = omega arith
gone-fits s (b ∷ bs) [] h = omega arith
gone-fits s (b ∷ bs) (v ∷ p) h =
    let line : ℕ → Line = λ w. (2, b.number, w, node_rack s w) in
    let k = filter (λ w. not (eqb w v)) b.copies in
    let e = sum_by-cons (λ b. length b.copies - 1) b bs in
    omega (arith, e, length-append (map line k) (gone_rows s bs p), length-map k line, kept-one v b.copies (h 0 (omega arith) (omega arith)), gone-fits s bs p (λ i m n. h (suc i) (omega arith) (omega arith)))

-- the first choice comes from the blocks' lists
first-listed : (s : Site) (n k c : ℕ) (bs : List Block) (v : ℕ) (xs : List (List ℕ)) → choices s c (copies_of bs) ≡ xs → (xs ≡ [] → ⊥) → Listed bs (first_of xs ++ parity s c (n - k) (first_of xs) (round s v))
first-listed s n k c bs v [] e ne i m q = absurd (ne refl)
first-listed s n k c bs v (us ∷ more) e ne i m q =
    let has' : Has (choices s c (copies_of bs)) us = subst (λ l. Has l us) (sym e) (has_get_or (us ∷ more) 0 us (omega arith)) in
    let h : Choice s c (copies_of bs) us = (choices-exact s c (copies_of bs) us).0 has' in
    let long = length-map bs (λ b. b.copies) in
    let in' : i < length us = omega (arith, h.long, long) in
    ap (λ w. has w (get_or (copies_of bs) i [])) (get_or_append_left us (parity s c (n - k) us (round s v)) 0 i in') ∙ h.listed i (omega (arith, long))

-- a call with so many rows to write to
abbrev pub Roomed : Call → ℕ → Type 0
Roomed (set_up n k c) room = Unit {0}
Roomed (offer b vs) room = Unit {0}
Roomed (seal r v) room = Unit {0}
Roomed (plan r rows) room = rows ≡ room
Roomed (deletions r rows) room = rows ≡ room
Roomed (standing r vs w) room = Unit {0}
Roomed (release r) room = Unit {0}
Roomed (abandon r) room = Unit {0}

pub roomed : (c : code.Call) (room : ℕ) → Roomed (call_of c room) room
roomed (call.SetUp n k c) room = tt
roomed (call.Offer b vs) room = tt
roomed (call.Seal r v) room = tt
roomed (call.Plan r) room = refl
roomed (call.Deletions r) room = refl
roomed (call.Standing r vs w) room = tt
roomed (call.Release r) room = tt
roomed (call.Abandon r) room = tt

-- what is answered where a refusal is met, and where none is, with room for the rows or without a word of it
module _ (s : Site) (l : Ledger) (q : Call) (r : Result Answer Refusal) (old new : List Row) where
  abbrev Loose : Option ℕ → Type 0
  Loose x = elim x as (λ _. Type 0) [ Some q ↦ ((e : Refusal) × (r ≡ Err e) × (number_of e ≡ q)) × (new ≡ old) | None ↦ (r ≡ Ok (accepted s l q)) × (length (written s l q) ≤ length old → map shown new ≡ written s l q ++ map shown (drop (length (written s l q)) old)) ]

  abbrev Tight : Option ℕ → Type 0
  Tight x = elim x as (λ _. Type 0) [ Some q ↦ ((e : Refusal) × (r ≡ Err e) × (number_of e ≡ q)) × (new ≡ old) | None ↦ (r ≡ Ok (accepted s l q)) × (map shown new ≡ written s l q ++ map shown (drop (length (written s l q)) old)) ]

module _ (s : Site) (limits : Limits s) (l : Ledger) (sound : Sound s l) where
  plan-fits : (o : Code) (r room : ℕ) → l.code ≡ Some o → refused_by s l (plan r room) ≡ None → length (written s l (plan r room)) ≤ room
  plan-fits o r room c e =
      let m = unmet (checks s o l (plan r room)) (sym (coded s l (plan r room) o (first (checks s o l (plan r room))) c refl) ∙ e) in
      by (stripe l r) refl (not-false _ m.1.0) (ltb-false room o.n m.1.1.0)
    where
      by : (x : Stripe) → stripe l r ≡ x → is_sealed x ≡ true → o.n ≤ room → length (plan_rows s (blocks_of (stripe l r)) (plan_of (stripe l r))) ≤ room
      by empty f t h = absurd (false≢true t)
      by (filling bs) f t h = absurd (false≢true t)
      by (sealed bs p) f t h = omega (arith, h, ap (λ x. length (plan_rows s (blocks_of x) (plan_of x))) f, plan-length s bs p, whole s limits o l c sound r bs p f)

  gone-fits-at : (o : Code) (r room : ℕ) → l.code ≡ Some o → refused_by s l (deletions r room) ≡ None → length (written s l (deletions r room)) ≤ room
  gone-fits-at o r room c e =
      let m = unmet (checks s o l (deletions r room)) (sym (coded s l (deletions r room) o (first (checks s o l (deletions r room))) c refl) ∙ e) in
      by (stripe l r) refl (not-false _ m.1.0) (ltb-false room (sum_by (λ b. length b.copies - 1) (blocks_of (stripe l r))) m.1.1.0)
    where
      by : (x : Stripe) → stripe l r ≡ x → is_sealed x ≡ true → sum_by (λ b. length b.copies - 1) (blocks_of (stripe l r)) ≤ room → length (gone_rows s (blocks_of (stripe l r)) (plan_of (stripe l r))) ≤ room
      by empty f t h = absurd (false≢true t)
      by (filling bs) f t h = absurd (false≢true t)
      by (sealed bs p) f t h =
          let q = shut s limits o l c sound r bs p f in
          let listed : Listed bs p = subst (Listed bs) (sym q.2.2) (first-listed s o.n o.k o.c bs q.2.0 (choices s o.c (copies_of bs)) refl q.1.choice) in
          omega (arith, h, ap (λ x. length (gone_rows s (blocks_of x) (plan_of x))) f, ap (λ x. sum_by (λ b. length b.copies - 1) (blocks_of x)) f, gone-fits s bs p listed)

  -- a call that is not refused has room for what the rules write
  fits : (q : Call) (n : ℕ) (t : Option Code) → l.code ≡ t → Roomed q n → refused_by s l q ≡ None → length (written s l q) ≤ n
  fits (set_up m k c) n t d r e = omega arith
  fits (offer b vs) n t d r e = omega arith
  fits (seal x v) n t d r e = omega arith
  fits (plan x rows) n None d r e = let z : ◌≡◌ {A = ℕ} 0 1 = cc (uncoded s l (plan x rows) (Some 20) d refl) in absurd (omega arith)
  fits (plan x rows) n (Some o) d r e = omega (arith, plan-fits o x rows d e, r)
  fits (deletions x rows) n None d r e = let z : ◌≡◌ {A = ℕ} 0 1 = cc (uncoded s l (deletions x rows) (Some 20) d refl) in absurd (omega arith)
  fits (deletions x rows) n (Some o) d r e = omega (arith, gone-fits-at o x rows d e, r)
  fits (standing x vs w) n t d r e = omega arith
  fits (release x) n t d r e = omega arith
  fits (abandon x) n t d r e = omega arith

  module _ (q : Call) (r : Result Answer Refusal) (old new : List Row) where
    tighten : (x : Option ℕ) → refused_by s l q ≡ x → Roomed q (length old) → Loose s l q r old new x → Tight s l q r old new x
    tighten (Some e) f m a = a
    tighten None f m a = (a.0, a.1 (fits q (length old) l.code refl m f))

    pub answered : Roomed q (length old) → Answering s l q r old new → Answered s l q r old new
    answered m a = tighten (refused_by s l q) refl m a

module _ {M : Type 0} (s : Site) (limits : Limits s) (st after : Store M) (q : Call) (r : Result Answer Refusal) (old new : List Row) (t : Told s st after q r old new) (m : Roomed q (length old)) where
  pub since : (h : List Call) → ledger_of st ≡ ledger s h → Since s h q (ledger_of after) r old new
  since h e =
      let l = ledger s h in
      let sound = ledger-sound s h in
      let a : Answered s l q r old new = answered s limits l sound q r old new m (subst (λ x. Answering s x q r old new) e t.answers) in
      let n : Named s l q r = subst (λ x. Named s x q r) e t.names in
      record {
        ledgered = t.noted ∙ (ap (λ x. step s x q) e ∙ sym (fold_push (step s) start h q));
        answered = a;
        promised = λ o c. kept s limits o l c sound q r old new a n;
      }

-- a call that writes no rows leaves the caller's as they were
spare : (s : Site) (l : Ledger) (q : Call) (r : Result Answer Refusal) (rows : List Row) → written s l q ≡ [] → (x : Option ℕ) → Loose s l q r [] [] x → Loose s l q r rows rows x
spare s l q r rows none (Some e) a = (a.0, refl)
spare s l q r rows none None a = (a.0, λ _. subst (λ w. map shown rows ≡ w ++ map shown (drop (length w) rows)) (sym none) refl)

pub rowless : {M : Type 0} {s : Site} {st after : Store M} {q : Call} {r : Result Answer Refusal} (rows : List Row) → written s (ledger_of st) q ≡ [] → Told s st after q r [] [] → Told s st after q r rows rows
rowless {s = s} {st = st} {q = q} {r = r} rows none t = record {
  answers = spare s (ledger_of st) q r rows none (refused_by s (ledger_of st) q) t.answers;
  names = t.names;
  noted = t.noted;
  kept = t.kept;
  refused = λ h. ((t.refused h).0, refl);
}

-- what is owed of a call that was matched as d, from what the call of its own name tells
pub owed : {M : Type 0} {s : Site} {st after : Store M} {c d : code.Call} {r : Result Answer Refusal} {rows new : List Row} → Limits s → c ≡ d → Told s st after (call_of d (length rows)) r rows new
    → (Told s st after (call_of c (length rows)) r rows new) × ((h : List Call) → ledger_of st ≡ ledger s h → Since s h (call_of c (length rows)) (ledger_of after) r rows new)
owed {s = s} {st = st} {after = after} {c = c} {r = r} {rows = rows} {new = new} limits e t =
    let told : Told s st after (call_of c (length rows)) r rows new = subst (λ x. Told s st after (call_of x (length rows)) r rows new) (sym e) t in
    (told, since s limits st after (call_of c (length rows)) r rows new told (roomed c (length rows)))
