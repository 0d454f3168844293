-- The rules leave a call one answer.
use Rattle.std.proofs.Common.{◌≡◌, ℕ, Bool, true, false, cond, not, ◌||◌, eqb, ltb, leb, List, [], ◌∷◌, ◌++◌, map, length, get_or, take, Some, None, Err, Option, Result, sym, refl, ap, ◌∙◌, subst, ⊎_elim, arith}
use Rattle.std.specs.List.{slice_get}
use Rattle.std.proofs.lemmas.Option.{slice_get-get_or}
use Rattle.std.proofs.lemmas.Bool.{cases_eq, eq-eqb, or_parts, leb-false, true≢false, false≢true}
use Rattle.site.specs.Site.{Site, node_rack}
use Rattle.choices.specs.Choice.{Copies, Choice, has, every, apart, choices}
use Rattle.choices.proofs.Head.{empty-none}
use Rattle.choices.proofs.Sites.{least-one}
use Rattle.store.specs.declared.types.Row.{Row}
use Rattle.store.specs.declared.types.Answer.{Answer}
use Rattle.store.specs.declared.types.Refusal.{Refusal}
use Rattle.store.specs.declared.types.Refusal.TheVariants.{OutsideLimits, SpaceBelowN, ListLength, OffMap, NodeTwice, CoreRackAgain, NoSuchRack, NotSetUp, SetUpBefore, BlockHeld, StripeFull, NoChoice, StripeBelowK, Sealed, NotSealed, StripeEmpty, FewRows}
use Rattle.store.specs.Stripes.{Code, Ledger, Call, set_up, offer, seal, plan, deletions, standing, release, abandon, blocks_of, stripe, holds, core, rest}
use Rattle.store.specs.Refusals.{none, first, checks, fresh, refused_by, number_of, on_map}
use Rattle.store.specs.Ledger.{ledger}
use Rattle.store.specs.Answers.{Answered}
use Rattle.store.specs.Promise.{Due, Kept, together}
use Rattle.history.specs.Runs.{AllAnswered, Alike}
use Rattle.store.proofs.Tells.{coded, uncoded}
use Rattle.store.proofs.Sound.{Unmet, formed-by}
use Rattle.store.proofs.Keeps.{accepts, refuses, only-word}

-- a refusal by its number and its word
abbrev word_of : Refusal → ℕ
word_of OutsideLimits = 0
word_of SpaceBelowN = 0
word_of ListLength = 0
word_of OffMap = 0
word_of NodeTwice = 0
word_of CoreRackAgain = 0
word_of NoSuchRack = 0
word_of NotSetUp = 0
word_of SetUpBefore = 0
word_of BlockHeld = 0
word_of StripeFull = 0
word_of (NoChoice w) = w
word_of StripeBelowK = 0
word_of Sealed = 0
word_of NotSealed = 0
word_of StripeEmpty = 0
word_of FewRows = 0

abbrev refusal_of : ℕ → ℕ → Refusal
refusal_of q w =
    cond (eqb q 1) OutsideLimits (cond (eqb q 2) SpaceBelowN (cond (eqb q 3) ListLength (cond (eqb q 4) OffMap
    (cond (eqb q 5) NodeTwice (cond (eqb q 6) CoreRackAgain (cond (eqb q 7) NoSuchRack (cond (eqb q 20) NotSetUp
    (cond (eqb q 21) SetUpBefore (cond (eqb q 22) BlockHeld (cond (eqb q 23) StripeFull (cond (eqb q 24) (NoChoice w)
    (cond (eqb q 25) StripeBelowK (cond (eqb q 26) Sealed (cond (eqb q 27) NotSealed (cond (eqb q 28) StripeEmpty FewRows)))))))))))))))

refusal_is : (e : Refusal) → e ≡ refusal_of (number_of e) (word_of e)
refusal_is OutsideLimits = refl
refusal_is SpaceBelowN = refl
refusal_is ListLength = refl
refusal_is OffMap = refl
refusal_is NodeTwice = refl
refusal_is CoreRackAgain = refl
refusal_is NoSuchRack = refl
refusal_is NotSetUp = refl
refusal_is SetUpBefore = refl
refusal_is BlockHeld = refl
refusal_is StripeFull = refl
refusal_is (NoChoice w) = refl
refusal_is StripeBelowK = refl
refusal_is Sealed = refl
refusal_is NotSealed = refl
refusal_is StripeEmpty = refl
refusal_is FewRows = refl

wordless : (e : Refusal) → (number_of e ≡ 24 → ⊥) → word_of e ≡ 0
wordless OutsideLimits ne = refl
wordless SpaceBelowN ne = refl
wordless ListLength ne = refl
wordless OffMap ne = refl
wordless NodeTwice ne = refl
wordless CoreRackAgain ne = refl
wordless NoSuchRack ne = refl
wordless NotSetUp ne = refl
wordless SetUpBefore ne = refl
wordless BlockHeld ne = refl
wordless StripeFull ne = refl
wordless (NoChoice w) ne = absurd (ne refl)
wordless StripeBelowK ne = refl
wordless Sealed ne = refl
wordless NotSealed ne = refl
wordless StripeEmpty ne = refl
wordless FewRows ne = refl

-- a number that no check has is not told, and the last check's is told where no other is met

elsewhere : (b : Bool) (n q : ℕ) (more : Option ℕ) → eqb q n ≡ false → cond b (Some n) more ≡ Some q → (b ≡ false) × (more ≡ Some q)
elsewhere true n q more ne e = let z : n ≡ q = cc in absurd (true≢false (sym (eq-eqb q n (sym z)) ∙ ne))
elsewhere false n q more ne e = (refl, e)

absent : (cs : List (Bool × ℕ)) (q : ℕ) → has q (map (λ c. c.1) cs) ≡ false → first cs ≡ Some q → ⊥
absent [] q h e = let z : ◌≡◌ {A = ℕ} 0 1 = cc in omega arith
absent (c ∷ more) q h e = let p = or_parts (eqb q c.1) (has q (map (λ c. c.1) more)) h in absent more q p.1 (elsewhere c.0 c.1 q (first more) p.0 e).1

at_last : (front : List (Bool × ℕ)) (b : Bool) (q : ℕ) → has q (map (λ c. c.1) front) ≡ false → first (front ++ (b, q) ∷ []) ≡ Some q → Unmet front × (b ≡ true)
at_last [] true q h e = (tt, refl)
at_last [] false q h e = let z : ◌≡◌ {A = ℕ} 0 1 = cc in absurd (omega arith)
at_last (c ∷ more) b q h e =
    let p = or_parts (eqb q c.1) (has q (map (λ c. c.1) more)) h in
    let m = elsewhere c.0 c.1 q (first (more ++ (b, q) ∷ [])) p.0 e in
    let r = at_last more b q p.1 m.1 in
    ((m.0, r.0), r.1)

all_none : {A : Type 0} (xs : List A) → none xs ≡ true → xs ≡ []
all_none [] e = refl
all_none (x ∷ xs) e = absurd (false≢true e)

-- where 24 is told, the block was due, and there is no choice
due-at : (s : Site) (o : Code) (l : Ledger) (b : ℕ) (vs : Copies) → first (checks s o l (offer b vs)) ≡ Some 24 → Due s o l b vs × (choices s o.c (together s l vs) ≡ [])
due-at s o l b vs e =
    let own = blocks_of (stripe l (core s vs)) in
    let front : List (Bool × ℕ) = (ltb (length vs) 2 || ltb 8 (length vs), 3) ∷ (not (every (on_map s) vs), 4) ∷ (not (apart vs), 5) ∷ (not (every (λ v. not (eqb (node_rack s v) (core s vs))) (rest vs)), 6) ∷ (holds l.stripes b, 22) ∷ (leb o.k (length own), 23) ∷ [] in
    let m = at_last front (none (choices s o.c (together s l vs))) 24 refl e in
    let a3 = m.0 in
    (record { formed = formed-by s vs a3.0 a3.1.0 a3.1.1.0 a3.1.1.1.0; new = a3.1.1.1.1.0; below = leb-false o.k (length own) a3.1.1.1.1.1.0 }, all_none _ m.1)

abbrev Keeps : Site → Ledger → Call → Result Answer Refusal → List Row → List Row → Type 0
Keeps s l q r b a = (o : Code) → l.code ≡ Some o → Kept s o l q r b a

-- one word at most
module _ (s : Site) (l : Ledger) (r r' : Result Answer Refusal) (b a b' a' : List Row) (w w' : ℕ) (is : r ≡ Err (NoChoice w)) (is' : r' ≡ Err (NoChoice w')) where
  word-by : (q : Call) (t : Option Code) → l.code ≡ t → Keeps s l q r b a → Keeps s l q r' b' a' → refused_by s l q ≡ Some 24 → w ≡ w'
  word-by q None c k k' e = absurd (fresh-not q (sym (uncoded s l q (first (fresh s q)) c refl) ∙ e))
    where
      fresh-not : (q : Call) → first (fresh s q) ≡ Some 24 → ⊥
      fresh-not (set_up n k c) e = absent (fresh s (set_up n k c)) 24 refl e
      fresh-not (offer b vs) e = absent (fresh s (offer b vs)) 24 refl e
      fresh-not (seal r v) e = absent (fresh s (seal r v)) 24 refl e
      fresh-not (plan r rows) e = absent (fresh s (plan r rows)) 24 refl e
      fresh-not (deletions r rows) e = absent (fresh s (deletions r rows)) 24 refl e
      fresh-not (standing r vs w) e = absent (fresh s (standing r vs w)) 24 refl e
      fresh-not (release r) e = absent (fresh s (release r)) 24 refl e
      fresh-not (abandon r) e = absent (fresh s (abandon r)) 24 refl e
  word-by q (Some o) c k k' e = at q k k' (sym (coded s l q o (first (checks s o l q)) c refl) ∙ e)
    where
      at : (q : Call) → Keeps s l q r b a → Keeps s l q r' b' a' → first (checks s o l q) ≡ Some 24 → w ≡ w'
      at (set_up n k c) k1 k2 e = absurd (absent (checks s o l (set_up n k c)) 24 refl e)
      at (offer x vs) k1 k2 e =
          let d = due-at s o l x vs e in
          let no-choice : (us : List ℕ) → Choice s o.c (together s l vs) us → ⊥ = λ us h. empty-none s o.c (together s l vs) d.1 us h in
          let m = (k1 o c).names x vs refl d.0 no-choice in
          let n = (k2 o c).names x vs refl d.0 no-choice in
          let m-is = m.1 in
          let n-is = n.1 in
          let e1 : w ≡ m.0 = cc in
          let e2 : w' ≡ n.0 = cc in
          e1 ∙ (least-one s o.c (together s l vs) m.0 n.0 m.2 n.2 ∙ sym e2)
      at (seal x v) k1 k2 e = absurd (absent (checks s o l (seal x v)) 24 refl e)
      at (plan x rows) k1 k2 e = absurd (absent (checks s o l (plan x rows)) 24 refl e)
      at (deletions x rows) k1 k2 e = absurd (absent (checks s o l (deletions x rows)) 24 refl e)
      at (standing x vs u) k1 k2 e = absurd (absent (checks s o l (standing x vs u)) 24 refl e)
      at (release x) k1 k2 e = absurd (absent (checks s o l (release x)) 24 refl e)
      at (abandon x) k1 k2 e = absurd (absent (checks s o l (abandon x)) 24 refl e)

module _ (s : Site) (l : Ledger) (q : Call) (r r' : Result Answer Refusal) (b a b' a' : List Row)
    (x : Answered s l q r b a) (y : Answered s l q r' b' a') (k : Keeps s l q r b a) (k' : Keeps s l q r' b' a') where
  one-by : (t : Option ℕ) → refused_by s l q ≡ t → r ≡ r'
  one-by None e = (accepts s l q r b a x e).0 ∙ sym (accepts s l q r' b' a' y e).0
  one-by (Some n) e =
      let u = (refuses s l q r b a x n e).0 in
      let v = (refuses s l q r' b' a' y n e).0 in
      let f = u.0 in
      let g = v.0 in
      let number : number_of f ≡ number_of g = u.2 ∙ sym v.2 in
      let word : word_of f ≡ word_of g =
      ⊎_elim
      (λ same.
      let m = only-word f (u.2 ∙ same) in
      let p = only-word g (v.2 ∙ same) in
      ap word_of m.1 ∙ (word-by s l r r' b a b' a' m.0 p.0 (u.1 ∙ ap Err m.1) (v.1 ∙ ap Err p.1) q l.code refl k k' (e ∙ ap Some same) ∙ sym (ap word_of p.1)))
      (λ ne. wordless f (λ z. ne (sym u.2 ∙ z)) ∙ sym (wordless g (λ z. ne (sym v.2 ∙ z))))
      (cases_eq n 24) in
      u.1 ∙ (ap Err (refusal_is f ∙ (ap (λ n. refusal_of n (word_of f)) number ∙ (ap (refusal_of (number_of g)) word ∙ sym (refusal_is g)))) ∙ sym v.1)

  pub one_answer : r ≡ r'
  one_answer = one-by (refused_by s l q) refl

-- two lists of answers to the same calls
pub answers-alike : (s : Site) (room : ℕ) (calls : List Call) (xs ys : List (Result Answer Refusal)) → AllAnswered s room calls xs → AllAnswered s room calls ys
    → (i : ℕ) (q : Call) (x y : Result Answer Refusal) → slice_get calls i ≡ Some q → slice_get xs i ≡ Some x → slice_get ys i ≡ Some y → x ≡ y
answers-alike s room calls xs ys f g i q x y e m n =
    let u = f i q x e m in
    let v = g i q y e n in
    one_answer s (ledger s (take i calls)) q x y u.0 u.1 v.0 v.1 u.3 v.3 u.4 v.4

-- of two runs over sites that are the same
pub runs-alike : (s t : Site) (room : ℕ) (calls : List Call) (xs ys : List (Result Answer Refusal)) → s ≡ t → AllAnswered s room calls xs → AllAnswered t room calls ys → Alike (length calls) xs ys
runs-alike s t room calls xs ys e f g i x y h m n =
    let d : Call = release 0 in
    answers-alike s room calls xs ys f (subst (λ z. AllAnswered z room calls ys) (sym e) g) i (get_or calls i d) x y (slice_get-get_or calls i d h) m n
