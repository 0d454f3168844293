-- The texts of rows and positions: one more at the end, and how long they are.
use Rattle.std.proofs.Common.{◌≡◌, ℕ, ◌+◌, ◌*◌, ◌^◌, ◌<◌, ◌≤◌, true, false, List, [], ◌∷◌, ◌++◌, map, length, get_or, take, decimal, ◌⊎◌, sym, refl, ap, ◌∙◌, subst, inl, inr, arith, length-append, length-take}
use native.Mathlib.Nat.{min-le_right}
use Rattle.std.specs.List.{flat_map, sum_by, AllByRecursion}
use Rattle.std.proofs.lemmas.Fmt.{length-decimal-le}
use Rattle.std.proofs.lemmas.List.{take_more, take_all, take-map, flat_map_more}
use Rattle.std.proofs.lemmas.List.Sums.{sum_by_more, sum_by-cons}
use Rattle.std.proofs.lemmas.List.Concat.{flat_map-cons}
use Rattle.std.proofs.lemmas.Bool.{true≢false}
use denote.Enum.Bare.{sameb}
use Rattle.text.specs.declared.writer.Writer.{Writer}
use Rattle.text.specs.Texts.{Wrote, written, room}
use Rattle.text.proofs.TextLaws.{wrote-more}
use Rattle.text.specs.Spaced.{spaced, spaced_by}
use Rattle.store.specs.contracts.types.Kind.{the_type}
use Rattle.store.specs.declared.types.Kind.{Kind}
use Rattle.store.specs.declared.types.Kind.TheVariants.{Data, Parity, Deleted}
use Rattle.store.specs.declared.types.Row.{Row}
use Rattle.store.specs.declared.types.Answer.{Answer}
use Rattle.store.specs.declared.types.Answer.TheVariants.{Done, Standing}
use Rattle.store.specs.declared.types.Refusal.{Refusal}
use Rattle.store.specs.declared.types.Refusal.TheVariants.{OutsideLimits, SpaceBelowN, ListLength, OffMap, NodeTwice, CoreRackAgain, NoSuchRack, NotSetUp, SetUpBefore, BlockHeld, StripeFull, NoChoice, StripeBelowK, Sealed, NotSealed, StripeEmpty, FewRows}
use Rattle.store.specs.Answers.{Line, kind_of, shown}
use Rattle.store.specs.Refusals.{number_of}
use Rattle.sheet.specs.Replies.{row_text, rows_text, answer_text, crowd_text, line_text}

-- ten digits at most
pub word-short : (n : ℕ) → n < 2 ^ 32 → length (decimal n) ≤ 10
word-short n h = length-decimal-le 10 n (omega arith) (omega arith) (omega arith)

pub node-short : (n : ℕ) → n < 2 ^ 16 → length (decimal n) ≤ 5
node-short n h = length-decimal-le 5 n (omega arith) (omega arith) (omega arith)

-- a deleted copy is told by its block and its node, and a planned node by itself
deleted-by : (k : Kind) (number node rack : ℕ) → sameb the_type k Deleted ≡ true → row_text (kind_of k, number, node, rack) ≡ decimal number ++ (58 ∷ decimal node)
deleted-by Data number node rack h = absurd (true≢false (sym h))
deleted-by Parity number node rack h = absurd (true≢false (sym h))
deleted-by Deleted number node rack h = refl

kept-by : (k : Kind) (number node rack : ℕ) → sameb the_type k Deleted ≡ false → row_text (kind_of k, number, node, rack) ≡ decimal node
kept-by Data number node rack h = refl
kept-by Parity number node rack h = refl
kept-by Deleted number node rack h = absurd (true≢false h)

pub deleted-text : (row : Row) → sameb the_type row.kind Deleted ≡ true → row_text (shown row) ≡ decimal row.number ++ (58 ∷ decimal row.node.0)
deleted-text row h = deleted-by row.kind row.number row.node.0 row.rack.0 h

pub kept-text : (row : Row) → sameb the_type row.kind Deleted ≡ false → row_text (shown row) ≡ decimal row.node.0
kept-text row h = kept-by row.kind row.number row.node.0 row.rack.0 h

-- numbers below 100 take three bytes each at most
numbers-short : (vs : List ℕ) → AllByRecursion (λ v. v < 100) vs → length (flat_map (λ v. 32 ∷ decimal v) vs) ≤ 3 * length vs
numbers-short [] h = omega arith
numbers-short (v ∷ vs) h =
    omega (arith, length-append (decimal v) (flat_map (λ u. 32 ∷ decimal u) vs), numbers-short vs h.1, length-decimal-le 2 v (omega arith) h.0 (omega (arith, h.0)))

pub spaced-short : (vs : List ℕ) → AllByRecursion (λ v. v < 100) vs → length (spaced vs) ≤ 3 * length vs
spaced-short [] h = omega arith
spaced-short (v ∷ vs) h =
    omega (arith, length-append (decimal v) (flat_map (λ u. 32 ∷ decimal u) vs), numbers-short vs h.1, length-decimal-le 2 v (omega arith) h.0 (omega (arith, h.0)))

pub length-line : (a b c : List ℕ) → length (line_text a b c) ≡ length a + length b + length c + 3
length-line a b c =
    omega (arith, length-append a (44 ∷ (b ++ (44 ∷ (c ++ (10 ∷ []))))), length-append b (44 ∷ (c ++ (10 ∷ []))), length-append c (10 ∷ []))

-- an answer that is told by nothing further
pub no-text : (a : Answer) (rows : List Line) → (a ≡ Done) ⊎ ((n : ℕ) × (a ≡ Standing n)) → answer_text a rows ≡ []
no-text a rows (inl e) = ap (λ x. answer_text x rows) e
no-text a rows (inr (n, e)) = ap (λ x. answer_text x rows) e

-- a refusal that names no set
pub no-crowd : (e : Refusal) → ((w : ℕ) → e ≡ NoChoice w → ⊥) → crowd_text e ≡ []
no-crowd OutsideLimits h = refl
no-crowd SpaceBelowN h = refl
no-crowd ListLength h = refl
no-crowd OffMap h = refl
no-crowd NodeTwice h = refl
no-crowd CoreRackAgain h = refl
no-crowd NoSuchRack h = refl
no-crowd NotSetUp h = refl
no-crowd SetUpBefore h = refl
no-crowd BlockHeld h = refl
no-crowd StripeFull h = refl
no-crowd (NoChoice w) h = absurd (h w refl)
no-crowd StripeBelowK h = refl
no-crowd Sealed h = refl
no-crowd NotSealed h = refl
no-crowd StripeEmpty h = refl
no-crowd FewRows h = refl

-- two digits at most
pub number-low : (e : Refusal) → number_of e < 100
number-low OutsideLimits = omega arith
number-low SpaceBelowN = omega arith
number-low ListLength = omega arith
number-low OffMap = omega arith
number-low NodeTwice = omega arith
number-low CoreRackAgain = omega arith
number-low NoSuchRack = omega arith
number-low NotSetUp = omega arith
number-low SetUpBefore = omega arith
number-low BlockHeld = omega arith
number-low StripeFull = omega arith
number-low (NoChoice w) = omega arith
number-low StripeBelowK = omega arith
number-low Sealed = omega arith
number-low NotSealed = omega arith
number-low StripeEmpty = omega arith
number-low FewRows = omega arith

pub two_digits : (n : ℕ) → n < 100 → length (decimal n) ≤ 2
two_digits n h = length-decimal-le 2 n (omega arith) (omega arith) (omega arith)

-- a turn of the loop that writes values with a space before each
pub spaced-turn : {A : Type 0} {a b c e : Writer} (text : A → List ℕ) (most : A → ℕ) (xs : List A) (i : ℕ) (v : A) → i < length xs → v ≡ get_or xs i v
    → Wrote a b (flat_map (λ u. 32 ∷ text u) (take i xs)) → length (flat_map (λ u. 32 ∷ text u) (take i xs)) ≤ sum_by (λ u. most u + 1) (take i xs)
    → Wrote b c (32 ∷ []) → Wrote c e (text v) → length (text v) ≤ most v
    → Wrote a e (flat_map (λ u. 32 ∷ text u) (take (i + 1) xs)) × (length (flat_map (λ u. 32 ∷ text u) (take (i + 1) xs)) ≤ sum_by (λ u. most u + 1) (take (i + 1) xs))
spaced-turn {A = A} {a = a} {e = e} text most xs i v h at so short p q s =
    let f : A → List ℕ = λ u. 32 ∷ text u in
    let n : A → ℕ = λ u. most u + 1 in
    let t : List ℕ = flat_map f (take i xs) in
    let eq : flat_map f (take (i + 1) xs) ≡ t ++ f v = ap (flat_map f) (take_more xs i v h ∙ ap (λ u. take i xs ++ (u ∷ [])) (sym at)) ∙ sym (flat_map_more f [] (take i xs) v) in
    let ns : sum_by n (take (i + 1) xs) ≡ sum_by n (take i xs) + n v = sum_by_more n xs i v h ∙ ap (λ u. sum_by n (take i xs) + n u) (sym at) in (
      subst (λ (l : List ℕ). Wrote a e l) (sym eq) (wrote-more t (f v) so (wrote-more (32 ∷ []) (text v) p q)),
      omega (arith, ap length eq, length-append t (f v), ns),
    )

-- the first value, and each further one with a space before it
pub spaced-all : {A : Type 0} {a b e : Writer} (text : A → List ℕ) (most : A → ℕ) (xs : List A) (x : A) (more : List A) (i : ℕ) → xs ≡ x ∷ more → length more ≤ i
    → Wrote a b (text x) → length (text x) ≤ most x
    → Wrote b e (flat_map (λ u. 32 ∷ text u) (take i more)) → length (flat_map (λ u. 32 ∷ text u) (take i more)) ≤ sum_by (λ u. most u + 1) (take i more)
    → Wrote a e (spaced_by text xs) × (length (spaced_by text xs) ≤ sum_by (λ u. most u + 1) xs)
spaced-all {A = A} {a = a} {e = e} text most xs x more i is all p s q t =
    let f : A → List ℕ = λ u. 32 ∷ text u in
    let n : A → ℕ = λ u. most u + 1 in
    let whole : take i more ≡ more = take_all i more all in
    let eq : text x ++ flat_map f (take i more) ≡ spaced_by text xs = ap (λ l. text x ++ flat_map f l) whole ∙ ap (spaced_by text) (sym is) in
    let ns : n x + sum_by n (take i more) ≡ sum_by n xs = ap (λ l. n x + sum_by n l) whole ∙ sym (sum_by-cons n x more) ∙ ap (sum_by n) (sym is) in (
      subst (λ (l : List ℕ). Wrote a e l) eq (wrote-more (text x) (flat_map f (take i more)) p q),
      omega (arith, ap length eq, length-append (text x) (flat_map f (take i more)), ns),
    )

rows-shown : (rows : List Row) → flat_map (λ row. 32 ∷ row_text (shown row)) rows ≡ flat_map (λ row. 32 ∷ row_text row) (map shown rows)
rows-shown [] = refl
rows-shown (row ∷ rows) = flat_map-cons (λ r. 32 ∷ row_text (shown r)) row rows ∙ ap (λ l. (32 ∷ row_text (shown row)) ++ l) (rows-shown rows) ∙ sym (flat_map-cons (λ r. 32 ∷ row_text r) (shown row) (map shown rows))

spaced-shown : (rows : List Row) → spaced_by (λ row. row_text (shown row)) rows ≡ rows_text (map shown rows)
spaced-shown [] = refl
spaced-shown (row ∷ rows) = ap (λ l. row_text (shown row) ++ l) (rows-shown rows)

-- the first rows
pub rows-said : (rows few : List Row) (n : ℕ) → few ≡ take n rows → spaced_by (λ row. row_text (shown row)) few ≡ rows_text (take n (map shown rows))
rows-said rows few n e = spaced-shown few ∙ ap (λ l. rows_text (map shown l)) e ∙ ap rows_text (sym (take-map shown n rows))

-- seventeen bytes a row
sum-rows : (rows : List Row) → sum_by (λ row. 17) rows ≡ 17 * length rows
sum-rows [] = refl
sum-rows (row ∷ rows) = omega (arith, sum_by-cons (λ (x : Row). 17) row rows, sum-rows rows)

pub rows-sum : (rows few : List Row) (n : ℕ) → few ≡ take n rows → sum_by (λ row. 17) few ≤ 17 * length rows
rows-sum rows few n e = omega (arith, sum-rows few, ap length e, length-take n rows, min-le_right n (length rows))

-- how much is written from the front of a buffer
pub wrote-length : {a b : Writer} (xs : List ℕ) → a.at ≡ 0 → Wrote a b xs → length (written b) ≡ length (take (room a) xs)
wrote-length {a = a} xs z p = ap length (p.front ∙ ap (λ n. take (room a) (take n a.buffer.now ++ xs)) z)
