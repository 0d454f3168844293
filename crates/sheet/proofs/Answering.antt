-- A store's answer, told by the ledger alone.
use Rattle.std.proofs.Common.{◌≡◌, ℕ, ◌<◌, ◌≤◌, Bool, true, false, not, ◌||◌, eqb, ltb, leb, List, [], ◌∷◌, ◌++◌, map, length, take, drop, Some, None, Ok, Err, decimal, Option, Result, sym, refl, ap, ◌∙◌, subst, arith}
use Rattle.std.specs.List.{ContainsAt as Has, AllByRecursion}
use Rattle.std.proofs.lemmas.List.{take_all, take_at}
use Rattle.std.proofs.lemmas.Bool.{true≢false, both_ways, or_parts, not-false, ltb-true, ltb-false, leb-false, and_parts, not-true, eqb-false, eq-eqb, or_left, or_right}
use Rattle.site.specs.Site.{Site, node_rack}
use Rattle.choices.specs.Choice.{Copies, Choice, has, apart, every, choices}
use Rattle.choices.proofs.Exact.{choices-exact}
use Rattle.store.specs.declared.types.Row.{Row}
use Rattle.store.specs.declared.types.Answer.{Answer}
use Rattle.store.specs.declared.types.Refusal.{Refusal}
use Rattle.store.specs.declared.types.Refusal.TheVariants.{OutsideLimits, SpaceBelowN, ListLength, OffMap, NodeTwice, CoreRackAgain, NoSuchRack, NotSetUp, SetUpBefore, BlockHeld, StripeFull, NoChoice, StripeBelowK, Sealed, NotSealed, StripeEmpty, FewRows}
use Rattle.store.specs.Stripes.{Code, Ledger, Call, set_up, offer, seal, plan, deletions, standing, release, abandon, blocks_of, stripe, holds, core, rest}
use Rattle.store.specs.Refusals.{number_of, none, first, on_map, checks, fresh, refused_by}
use Rattle.store.specs.Ledger.{ledger}
use Rattle.store.specs.Answers.{Line, shown, accepted, written, Answered}
use Rattle.store.specs.Promise.{Due, Kept, together}
use Rattle.store.specs.Told.{Since}
use Rattle.text.specs.Texts.{whole}
use Rattle.sheet.specs.Said.{first_of}
use Rattle.sheet.specs.Runs.{Lined}
use Rattle.sheet.specs.Replies.{line_text, rows_text, answer_text, rest_text, status, reply_text}
use Rattle.sheet.specs.Results.{crowd, crowd_of, refusal_of, answer_of}
use Rattle.sheet.proofs.Crowds.{crowd-least}

-- a refusal that is told is one of those that are checked
first-has : (xs : List (Bool × ℕ)) (q : ℕ) → first xs ≡ Some q → has q (map (λ x. x.1) xs) ≡ true
first-has [] q e = absurd (let z : ◌≡◌ {A = ℕ} 0 1 = cc in omega arith)
first-has ((true, n) ∷ more) q e = let z : n ≡ q = cc in or_left (eqb q n) (has q (map (λ x. x.1) more)) (eq-eqb q n (sym z))
first-has ((false, n) ∷ more) q e = or_right (eqb q n) (has q (map (λ x. x.1) more)) (first-has more q e)

not-among : (xs : List (Bool × ℕ)) (q : ℕ) → has q (map (λ x. x.1) xs) ≡ false → first xs ≡ Some q → ⊥
not-among xs q absent e = both_ways (has q (map (λ x. x.1) xs)) absent (first-has xs q e)

-- one that is not met, since it has another number
next_one : (met : Bool) (n q : ℕ) (more : List (Bool × ℕ)) → eqb n q ≡ false → first ((met, n) ∷ more) ≡ Some q → (met ≡ false) × (first more ≡ Some q)
next_one true n q more ne e = absurd (let z : n ≡ q = cc in eqb-false n q ne z)
next_one false n q more ne e = (refl, e)

last_one : (met : Bool) (n q : ℕ) → first ((met, n) ∷ []) ≡ Some q → met ≡ true
last_one true n q e = refl
last_one false n q e = absurd (let z : ◌≡◌ {A = ℕ} 0 1 = cc in omega arith)

all-every : (p : ℕ → Bool) (P : ℕ → Type 0) → ((v : ℕ) → p v ≡ true → P v) → (vs : List ℕ) → every p vs ≡ true → AllByRecursion P vs
all-every p P f [] h = tt
all-every p P f (v ∷ vs) h = let q = and_parts (p v) (every p vs) h in (f v q.0, all-every p P f vs q.1)

none-nil : {A : Type 0} (xs : List A) → none xs ≡ true → xs ≡ []
none-nil [] h = refl
none-nil (x ∷ xs) h = absurd (true≢false (sym h))

has-nil : (x : List ℕ) → Has [] x → ⊥
has-nil x (k, low, at) = omega arith

no-choice : (s : Site) (c : ℕ) (bs : List Copies) → none (choices s c bs) ≡ true → (us : List ℕ) → Choice s c bs us → ⊥
no-choice s c bs h us choice = has-nil us (subst (λ (l : List (List ℕ)). Has l us) (none-nil (choices s c bs) h) ((choices-exact s c bs us).1 choice))

away-from : (s : Site) (r : ℕ) (vs : List ℕ) → every (λ v. not (eqb (node_rack s v) r)) vs ≡ true → AllByRecursion (λ v. node_rack s v ≡ r → ⊥) vs
away-from s r = all-every (λ v. not (eqb (node_rack s v) r)) (λ v. node_rack s v ≡ r → ⊥) (λ v t. eqb-false (node_rack s v) r (not-true (eqb (node_rack s v) r) t))

-- where 24 is told, the block was due and there is no choice
pub due-at : (s : Site) (o : Code) (l : Ledger) (b : ℕ) (vs : Copies) → first (checks s o l (offer b vs)) ≡ Some 24
    → Due s o l b vs × ((us : List ℕ) → Choice s o.c (together s l vs) us → ⊥)
due-at s o l b vs e =
    let own = blocks_of (stripe l (core s vs)) in
    let t24 : List (Bool × ℕ) = (none (choices s o.c (together s l vs)), 24) ∷ [] in
    let t23 : List (Bool × ℕ) = (leb o.k (length own), 23) ∷ t24 in
    let t22 : List (Bool × ℕ) = (holds l.stripes b, 22) ∷ t23 in
    let t6 : List (Bool × ℕ) = (not (every (λ v. not (eqb (node_rack s v) (core s vs))) (rest vs)), 6) ∷ t22 in
    let t5 : List (Bool × ℕ) = (not (apart vs), 5) ∷ t6 in
    let t4 : List (Bool × ℕ) = (not (every (on_map s) vs), 4) ∷ t5 in
    let p3 = next_one (ltb (length vs) 2 || ltb 8 (length vs)) 3 24 t4 refl e in
    let p4 = next_one (not (every (on_map s) vs)) 4 24 t5 refl p3.1 in
    let p5 = next_one (not (apart vs)) 5 24 t6 refl p4.1 in
    let p6 = next_one (not (every (λ v. not (eqb (node_rack s v) (core s vs))) (rest vs))) 6 24 t22 refl p5.1 in
    let p22 = next_one (holds l.stripes b) 22 24 t23 refl p6.1 in
    let p23 = next_one (leb o.k (length own)) 23 24 t24 refl p22.1 in
    let p24 = last_one (none (choices s o.c (together s l vs))) 24 24 p23.1 in
    let long = or_parts (ltb (length vs) 2) (ltb 8 (length vs)) p3.0 in (
      record {
        formed = record {
          enough = ltb-false (length vs) 2 long.0;
          few = ltb-false 8 (length vs) long.1;
          present = all-every (on_map s) (λ v. v < length s) (λ v t. ltb-true v (length s) t) vs (not-false (every (on_map s) vs) p4.0);
          differ = not-false (apart vs) p5.0;
          away = away-from s (core s vs) (rest vs) (not-false (every (λ v. not (eqb (node_rack s v) (core s vs))) (rest vs)) p6.0);
        };
        new = p22.0;
        below = leb-false o.k (length own) p23.0;
      },
      no-choice s o.c (together s l vs) p24,
    )

abbrev refused_with : Site → Ledger → Call → Option Code → Option ℕ
refused_with s l call code = elim code [ None ↦ first (fresh s call) | Some o ↦ first (checks s o l call) ]

KeptAt : Site → Ledger → Call → Result Answer Refusal → List Row → List Row → Type 0
KeptAt s l call r before after = (o : Code) → l.code ≡ Some o → Kept s o l call r before after

-- the word that comes with 24
named-word : (s : Site) (o : Code) (l : Ledger) (b : ℕ) (vs : Copies) (r : Result Answer Refusal) (before after : List Row) (u : ℕ)
    → Kept s o l (offer b vs) r before after → first (checks s o l (offer b vs)) ≡ Some 24 → r ≡ Err (NoChoice u) → u ≡ crowd s o.c (together s l vs)
named-word s o l b vs r before after u kept e told =
    let d = due-at s o l b vs e in
    let n = kept.names b vs refl d.0 d.1 in
    let same : u ≡ n.0 = let told' = n.1 in cc in
    same ∙ sym (crowd-least s o.c (together s l vs) n.0 n.2)

-- and no other call has 24
crowd-with : (s : Site) (l : Ledger) (call : Call) (r : Result Answer Refusal) (before after : List Row) (u : ℕ) → KeptAt s l call r before after
    → r ≡ Err (NoChoice u) → (code : Option Code) → l.code ≡ code → refused_with s l call code ≡ Some 24 → u ≡ crowd_of s l call
unfolding KeptAt
crowd-with s l (set_up n k c) r before after u kept told None same e = absurd (not-among (fresh s (set_up n k c)) 24 refl e)
crowd-with s l (offer b vs) r before after u kept told None same e = absurd (not-among (fresh s (offer b vs)) 24 refl e)
crowd-with s l (seal k v) r before after u kept told None same e = absurd (not-among (fresh s (seal k v)) 24 refl e)
crowd-with s l (plan k rows) r before after u kept told None same e = absurd (not-among (fresh s (plan k rows)) 24 refl e)
crowd-with s l (deletions k rows) r before after u kept told None same e = absurd (not-among (fresh s (deletions k rows)) 24 refl e)
crowd-with s l (standing k vs w) r before after u kept told None same e = absurd (not-among (fresh s (standing k vs w)) 24 refl e)
crowd-with s l (release k) r before after u kept told None same e = absurd (not-among (fresh s (release k)) 24 refl e)
crowd-with s l (abandon k) r before after u kept told None same e = absurd (not-among (fresh s (abandon k)) 24 refl e)
crowd-with s l (set_up n k c) r before after u kept told (Some o) same e = absurd (not-among (checks s o l (set_up n k c)) 24 refl e)
crowd-with s l (offer b vs) r before after u kept told (Some o) same e =
    named-word s o l b vs r before after u (kept o same) e told ∙ sym (ap (λ (x : Option Code). elim x [ None ↦ 0 | Some p ↦ crowd s p.c (together s l vs) ]) same)
crowd-with s l (seal k v) r before after u kept told (Some o) same e = absurd (not-among (checks s o l (seal k v)) 24 refl e)
crowd-with s l (plan k rows) r before after u kept told (Some o) same e = absurd (not-among (checks s o l (plan k rows)) 24 refl e)
crowd-with s l (deletions k rows) r before after u kept told (Some o) same e = absurd (not-among (checks s o l (deletions k rows)) 24 refl e)
crowd-with s l (standing k vs w) r before after u kept told (Some o) same e = absurd (not-among (checks s o l (standing k vs w)) 24 refl e)
crowd-with s l (release k) r before after u kept told (Some o) same e = absurd (not-among (checks s o l (release k)) 24 refl e)
crowd-with s l (abandon k) r before after u kept told (Some o) same e = absurd (not-among (checks s o l (abandon k)) 24 refl e)

-- a refusal is told by its number, and 24 by its word too
refusal-at : (e : Refusal) (w : ℕ) → ((u : ℕ) → e ≡ NoChoice u → u ≡ w) → e ≡ refusal_of w (number_of e)
refusal-at OutsideLimits w h = refl
refusal-at SpaceBelowN w h = refl
refusal-at ListLength w h = refl
refusal-at OffMap w h = refl
refusal-at NodeTwice w h = refl
refusal-at CoreRackAgain w h = refl
refusal-at NoSuchRack w h = refl
refusal-at NotSetUp w h = refl
refusal-at SetUpBefore w h = refl
refusal-at BlockHeld w h = refl
refusal-at StripeFull w h = refl
refusal-at (NoChoice u) w h = ap NoChoice (h u refl)
refusal-at StripeBelowK w h = refl
refusal-at Sealed w h = refl
refusal-at NotSealed w h = refl
refusal-at StripeEmpty w h = refl
refusal-at FewRows w h = refl

abbrev answer_with : Site → Ledger → Call → Option ℕ → Result Answer Refusal
answer_with s l call told = elim told [ None ↦ Ok (accepted s l call) | Some q ↦ Err (refusal_of (crowd_of s l call) q) ]

abbrev pub AnsweredWith : Site → Ledger → Call → Result Answer Refusal → List Row → List Row → Option ℕ → Type 0
AnsweredWith s l call r before after told = elim told [
  | Some q ↦ ((e : Refusal) × (r ≡ Err e) × (number_of e ≡ q)) × (after ≡ before)
  | None ↦ (r ≡ Ok (accepted s l call)) × (map shown after ≡ written s l call ++ map shown (drop (length (written s l call)) before))
]

refused-is : (s : Site) (l : Ledger) (call : Call) (r : Result Answer Refusal) (before after : List Row) (q : ℕ) → KeptAt s l call r before after
    → refused_by s l call ≡ Some q → AnsweredWith s l call r before after (Some q) → r ≡ Err (refusal_of (crowd_of s l call) q)
refused-is s l call r before after q kept at told =
    let e = told.0.0 in
    let same = told.0.1 in
    let number = told.0.2 in
    let word : (u : ℕ) → e ≡ NoChoice u → u ≡ crowd_of s l call = λ u is.
    let n : q ≡ 24 = sym number ∙ ap number_of is in
    crowd-with s l call r before after u kept (same ∙ ap Err is) l.code refl (at ∙ ap Some n) in
    same ∙ ap Err (refusal-at e (crowd_of s l call) word ∙ ap (refusal_of (crowd_of s l call)) number)

pub answer-is : (s : Site) (l : Ledger) (call : Call) (r : Result Answer Refusal) (before after : List Row)
    → Answered s l call r before after → ((o : Code) → l.code ≡ Some o → Kept s o l call r before after) → r ≡ answer_of s l call
unfolding KeptAt
answer-is s l call r before after answered kept =
    let P : Option ℕ → Type 0 = λ told. refused_by s l call ≡ told → AnsweredWith s l call r before after told → r ≡ answer_with s l call told in
    let both : (told : Option ℕ) → P told = λ told. elim told as P [ None ↦ (λ at h. h.0) | Some q ↦ (λ at h. refused-is s l call r before after q kept at h) ] in
    both (refused_by s l call) refl answered

front-again : (xs ys : List Line) → take (length xs) (xs ++ ys) ≡ take (length xs) xs
front-again xs ys = take_at xs ys (length xs) refl ∙ sym (take_all (length xs) xs (omega arith))

-- the line of a call needs no rows but those that the call wrote
own-rows : (s : Site) (l : Ledger) (call : Call) (more : List Line) → answer_text (accepted s l call) (written s l call ++ more) ≡ answer_text (accepted s l call) (written s l call)
own-rows s l (set_up n k c) more = refl
own-rows s l (offer b vs) more = refl
own-rows s l (seal k v) more = refl
own-rows s l (plan k rows) more = ap rows_text (front-again (written s l (plan k rows)) more)
own-rows s l (deletions k rows) more = ap rows_text (front-again (written s l (deletions k rows)) more)
own-rows s l (standing k vs w) more = refl
own-rows s l (release k) more = refl
own-rows s l (abandon k) more = refl

rest-with : (s : Site) (l : Ledger) (call : Call) (r : Result Answer Refusal) (before after : List Row) (told : Option ℕ) → AnsweredWith s l call r before after told
    → rest_text (answer_with s l call told) (map shown after) ≡ rest_text (answer_with s l call told) (written s l call)
rest-with s l call r before after (Some q) h = refl
rest-with s l call r before after None h = ap (answer_text (accepted s l call)) h.1 ∙ own-rows s l call (map shown (drop (length (written s l call)) before))

-- the line of a call, told by the ledger alone
pub reply-is : (s : Site) (l : Ledger) (call : Call) (n : ℕ) (r : Result Answer Refusal) (before after : List Row)
    → Answered s l call r before after → ((o : Code) → l.code ≡ Some o → Kept s o l call r before after)
    → reply_text n r (map shown after) ≡ reply_text n (answer_of s l call) (written s l call)
reply-is s l call n r before after answered kept =
    ap (λ (x : Result Answer Refusal). reply_text n x (map shown after)) (answer-is s l call r before after answered kept)
    ∙ ap (λ (x : List ℕ). line_text (status (answer_of s l call)) (decimal n) x) (rest-with s l call r before after (refused_by s l call) answered)

-- a call at a store that has had the calls h, and the line that is written for it
pub lined : (s : Site) (h : List Call) (call : Call) (after : Ledger) (r : Result Answer Refusal) (old new : List Row) (n count : ℕ) (was is : List ℕ)
    → Since s h call after r old new → n ≡ first_of call
    → count ≡ length (take (length was) (reply_text n r (map shown new))) → is ≡ whole was (reply_text n r (map shown new)) → length (reply_text n r (map shown new)) ≤ 2048
    → Lined s h call after count was is
lined s h call after r old new n count was is since first c t short =
    let e = ap (λ m. reply_text m r (map shown new)) first ∙ reply-is s (ledger s h) call (first_of call) r old new since.answered since.promised in
    record {
      ledgered = since.ledgered;
      text = t ∙ ap (whole was) e;
      count_is = c ∙ ap (λ l. length (take (length was) l)) e;
      short = subst (λ (l : List ℕ). length l ≤ 2048) e short;
    }
