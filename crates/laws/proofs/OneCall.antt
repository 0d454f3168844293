-- A call line is the text of one call only.
use Rattle.std.proofs.Common.{◌≡◌, ℕ, ◌^◌, ◌<◌, ◌≤◌, true, false, cond, eqb, List, [], ◌∷◌, ◌++◌, map, get_or, Some, None, decimal, Option, sym, refl, ap, ◌∙◌, subst, ⊎_elim, arith}
use Rattle.std.specs.List.{flat_map, AllByRecursion}
use Rattle.std.proofs.lemmas.Fmt.{decimal_nonempty}
use Rattle.std.proofs.ByRecursion.{All-from_get_or}
use Rattle.std.proofs.lemmas.Bool.{or_cases, eqb-true, both_ways}
use Rattle.text.specs.Numbers.{number_in}
use Rattle.text.specs.NodeLists.{headed, numbers_in, node_list_in}
use Rattle.text.specs.Orders.{elem}
use Rattle.text.specs.Pieces.{parted, glued}
use Rattle.text.specs.Spaced.{spaced}
use Rattle.text.proofs.GlueLaws.{Free, parted-glued}
use Rattle.text.proofs.NumberLaws.{exact-is, all_digits}
use Rattle.reader.specs.Calls.{CallOrder}
use Rattle.reader.proofs.PickLaws.{picks-all}
use Rattle.store.specs.Stripes.{Call, set_up, offer, seal, plan, deletions, standing, release, abandon}
use Rattle.sheet.specs.Said.{letter_text, first_of, rest_field, Sheetly, field_text, Writes}

-- numbers and node lists are read back from their texts

abbrev number_or : Option ℕ → ℕ
number_or None = 0
number_or (Some v) = v

abbrev list_or : Option (List ℕ) → List ℕ
list_or None = []
list_or (Some vs) = vs

number-back : (limit v : ℕ) → limit < 2 ^ 64 → v ≤ limit → number_or (number_in limit (decimal v)) ≡ v
number-back limit v h low = ap number_or (sym (exact-is limit (decimal v) (Some v) h (low, refl)))

further-glued : (vs : List ℕ) → flat_map (λ u. 32 ∷ decimal u) vs ≡ flat_map (λ q. 32 ∷ q) (map decimal vs)
further-glued [] = refl
further-glued (v ∷ vs) = ap (λ l. (32 ∷ decimal v) ++ l) (further-glued vs)

spaced-glued : (vs : List ℕ) → spaced vs ≡ glued 32 (map decimal vs)
spaced-glued [] = refl
spaced-glued (v ∷ vs) = ap (λ l. decimal v ++ l) (further-glued vs)

digits-free : (v : ℕ) → v ≤ 65535 → Free 32 (decimal v)
digits-free v h = All-from_get_or (λ b. b ≡ 32 → ⊥) (decimal v) 0 (λ i l e. omega (arith, all_digits (decimal v) v (omega arith) refl i l))

all-free : (vs : List ℕ) → AllByRecursion (λ v. v ≤ 65535) vs → AllByRecursion (Free 32) (map decimal vs)
all-free [] h = tt
all-free (v ∷ vs) h = (digits-free v h.0, all-free vs h.1)

parted-spaced : (vs : List ℕ) → AllByRecursion (λ v. v ≤ 65535) vs → parted 32 (spaced vs) ≡ map decimal vs
parted-spaced [] h = refl
parted-spaced (v ∷ vs) h = ap (parted 32) (spaced-glued (v ∷ vs)) ∙ parted-glued 32 (decimal v) (map decimal vs) (decimal_nonempty v (omega (arith, h.0))) (digits-free v h.0) (all-free vs h.1)

words_back : (vs : List ℕ) → AllByRecursion (λ v. v ≤ 65535) vs → numbers_in 65535 (map decimal vs) ≡ Some vs
words_back [] h = refl
words_back (v ∷ vs) h = (λ k. headed (sym (exact-is 65535 (decimal v) (Some v) (omega arith) (h.0, refl)) k) (words_back vs h.1 k))

list_back : (vs : List ℕ) → AllByRecursion (λ v. v ≤ 65535) vs → list_or (node_list_in (spaced vs)) ≡ vs
list_back vs h = ap (λ ws. list_or (numbers_in 65535 ws)) (parted-spaced vs h) ∙ ap list_or (words_back vs h)

-- the call of a letter's byte, a first number, nodes and a start node
abbrev call_by : ℕ → ℕ → List ℕ → ℕ → Call
call_by byte n vs v =
    cond (eqb byte 111) (offer n vs) (cond (eqb byte 115) (seal n v) (cond (eqb byte 112) (plan n 112) (cond (eqb byte 100) (deletions n 112) (cond (eqb byte 114) (release n) (abandon n)))))

abbrev call_read_back : List ℕ → List ℕ → List ℕ → Call
call_read_back letter number rest = call_by (get_or letter 0 0) (number_or (number_in 4294967295 number)) (list_or (node_list_in rest)) (number_or (number_in 65535 rest))

read_back : (c : Call) → Sheetly c → first_of c ≤ 4294967295 → call_read_back (letter_text c) (decimal (first_of c)) (rest_field c) ≡ c
read_back (set_up n k c) can low = absurd can
read_back (offer b vs) can low = (λ i. offer (number-back 4294967295 b (omega arith) low i) (list_back vs can i))
read_back (seal r v) can low = (λ i. seal (number-back 4294967295 r (omega arith) low i) (number-back 65535 v (omega arith) can i))
read_back (plan r rows) can low = (λ i. plan (number-back 4294967295 r (omega arith) low i) (sym can i))
read_back (deletions r rows) can low = (λ i. deletions (number-back 4294967295 r (omega arith) low i) (sym can i))
read_back (standing r lost w) can low = absurd can
read_back (release r) can low = ap release (number-back 4294967295 r (omega arith) low)
read_back (abandon r) can low = ap abandon (number-back 4294967295 r (omega arith) low)

same_map : (t u : ℕ → List ℕ) (is : List ℕ) → map t is ≡ map u is → (j : ℕ) → elem j is ≡ true → t j ≡ u j
same_map t u [] e j m = absurd (both_ways false refl m)
same_map t u (i ∷ is) e j m =
    let here : t i ≡ u i = cc in
    let more : map t is ≡ map u is = cc in
    ⊎_elim (λ p. subst (λ (k : ℕ). t k ≡ u k) (eqb-true i j p) here) (same_map t u is more j) (or_cases (eqb i j) (elem j is) m)

pub one-call : (is line : List ℕ) (c d : Call) → CallOrder is → Writes is line c → Writes is line d → c ≡ d
one-call is line c d order p q =
    let o = order.1 in
    let same : (j : ℕ) → j < 3 → field_text c j ≡ field_text d j = λ j h. same_map (field_text c) (field_text d) is (sym p.fields ∙ q.fields) j (picks-all 3 is o.all o.once o.names j h) in
    sym (read_back c p.can p.low) ∙ (λ i. call_read_back (same 0 (omega arith) i) (same 1 (omega arith) i) (same 2 (omega arith) i)) ∙ read_back d q.can q.low
