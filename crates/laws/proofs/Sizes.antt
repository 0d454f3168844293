-- Where code and site have no fault, what they say has sizes that a sheet can write.
use Rattle.std.proofs.Common.{◌≡◌, ℕ, zero, suc, ◌+◌, ◌/◌, ◌%◌, ◌^◌, ◌<◌, ◌≤◌, Bool, true, false, cond, eqb, List, [], ◌∷◌, map, length, get_or, decimal, sym, refl, subst, inl, inr, ⊎_elim, arith}
use Rattle.std.specs.Fmt.{digits, digits_onto, digit_glyph}
use Rattle.std.specs.List.{AllByRecursion}
use Rattle.std.proofs.lemmas.Bool.{eqb-true, or_cases, both_ways, cases_lt}
use Rattle.std.proofs.lemmas.Fmt.{decimal_injective, length-decimal-le}
use Rattle.std.proofs.Math.Nat.{one-le-pow, pow-suc}
use Rattle.site.specs.Site.{Place}
use Rattle.text.specs.Faults.{at}
use Rattle.text.specs.Orders.{elem}
use Rattle.text.specs.Pieces.{parted, lines_of}
use Rattle.text.specs.declared.fault.FaultKind.TheVariants.{Field, Count, Sheet}
use Rattle.reader.specs.declared.code.CodeValues.{CodeValues}
use Rattle.reader.specs.declared.form.Form.{Form}
use Rattle.reader.specs.declared.form.Form.TheVariants.{Numbers, Node}
use Rattle.reader.specs.declared.form.Want.TheVariants.{Number}
use Rattle.reader.specs.Wants.{Fit, want_of}
use Rattle.reader.specs.Rows.{RowFault, Clean}
use Rattle.reader.specs.Names.{code_names, regular_names, node_names, InOrder}
use Rattle.reader.specs.Codes.{CodeFault, CodeText, CodeWords, code_text, Word}
use Rattle.reader.specs.Listings.{NodesFault, NodesText, node_text}
use Rattle.reader.specs.Sites.{SitePartFault, regular_text}
use Rattle.reader.specs.Heads.{HeadFault}
use Rattle.reader.proofs.FieldLaws.{FitsRow, row_fits}
use Rattle.reader.proofs.LineLaws.{no_bytes}
use Rattle.reader.proofs.PickLaws.{picks-all}
use Rattle.sheet.specs.Sheets.{RegularSaid, ListingSaid, site_lines}

-- the last digit of a number, and what k more steps then write of the rest
abbrev last_digit : ℕ → ℕ
last_digit n = digit_glyph false (n % 10)

abbrev steps_on : ℕ → ℕ → List ℕ → List ℕ
steps_on k n acc = digits_onto k 10 false (n / 10) (last_digit n ∷ acc)

-- what is written stands before what is there
digits_grow : (k n : ℕ) (acc : List ℕ) → length acc ≤ length (digits_onto k 10 false n acc)
digits_grow zero n acc = omega arith
digits_grow (suc k) n acc = by (eqb (n / 10) 0) (last_digit n) (steps_on k n acc) (digits_grow k (n / 10) (last_digit n ∷ acc)) where
  by : (b : Bool) (d : ℕ) (more : List ℕ) → length (d ∷ acc) ≤ length more → length acc ≤ length (cond b (d ∷ acc) more)
  by true d more h = omega arith
  by false d more h = omega arith

-- a number that j digits write, where there is room for more, is below 10 ^ j
few_digits : (k j n : ℕ) (acc : List ℕ) → j < k → length (digits_onto k 10 false n acc) ≤ length acc + j → n < 10 ^ j
few_digits zero j n acc h = absurd (omega arith)
few_digits (suc k) j n acc h = by j h (λ i. few_digits k i (n / 10) (last_digit n ∷ acc)) (eqb (n / 10) 0) refl where
  by : (j : ℕ) → j < suc k → ((i : ℕ) → i < k → length (steps_on k n acc) ≤ length (last_digit n ∷ acc) + i → n / 10 < 10 ^ i) → (b : Bool) → eqb (n / 10) 0 ≡ b → length (cond b (last_digit n ∷ acc) (steps_on k n acc)) ≤ length acc + j → n < 10 ^ j
  by zero h rest true e le = absurd (omega arith)
  by zero h rest false e le = absurd (omega (arith, digits_grow k (n / 10) (last_digit n ∷ acc)))
  by (suc i) h rest true e le = omega (arith, eqb-true (n / 10) 0 e, pow-suc 10 i, one-le-pow i 10 (omega arith))
  by (suc i) h rest false e le = omega (arith, rest i (omega arith) (omega arith), pow-suc 10 i)

-- so is one whose decimal text has j bytes at most
short_text : (v j : ℕ) → j < 64 → length (decimal v) ≤ j → v < 10 ^ j
unfolding digits
short_text v j h le = few_digits 64 j v [] h (omega arith)

-- a number that is written as a word is that word
same_number : (v u : ℕ) → u ≤ 4294967295 → decimal v ≡ decimal u → v ≡ u
same_number v u h e =
    let short : length (decimal v) ≤ 10 = subst (λ (bs : List ℕ). length bs ≤ 10) (sym e) (length-decimal-le 10 u (omega arith) (omega arith) (omega arith)) in
    let small : v < 10 ^ 10 = short_text v 10 (omega arith) short in
    decimal_injective v u (omega arith) (omega arith) e

-- a number that fits is within the limit
number_within : (limit v : ℕ) → limit ≤ 4294967295 → Fit (Number limit) (decimal v) → v ≤ limit
number_within limit v h fits = ⊎_elim (λ l. absurd (fits Field (refl, λ u k e. omega (arith, same_number v u (omega arith) e)))) (λ l. l) (cases_lt limit v)

-- each of the fields that fit is what is wanted
row_at : (form : Form) (t : ℕ → List ℕ) (is : List ℕ) → FitsRow form is (map t is) → (j : ℕ) → elem j is ≡ true → Fit (want_of form j) (t j)
row_at form t [] fits j m = absurd (both_ways false refl m)
row_at form t (i ∷ is) fits j m = ⊎_elim (λ p. subst (λ k. Fit (want_of form k) (t k)) (eqb-true i j p) fits.0) (row_at form t is fits.1 j) (or_cases (eqb i j) (elem j is) m)

-- where a line has no fault, what its fields say under each name is what is wanted
text-fits : (form : Form) (t : ℕ → List ℕ) (names : List (List ℕ)) (head is : List ℕ) (n : ℕ) (line : List ℕ) → InOrder names head is → parted 44 line ≡ map t is → Clean (RowFault form is n line) → (j : ℕ) → j < length names → Fit (want_of form j) (t j)
text-fits form t names head is n line o text clean j h = row_at form t is (subst (FitsRow form is) text (row_fits form is n line clean)) j (picks-all (length names) is o.all o.once o.names j h)

-- the parts of a sheet with no fault have none
pub head-parts : (sheet : List ℕ) → Clean (HeadFault sheet) → Clean (CodeFault 1 (lines_of sheet)) × Clean (SitePartFault 4 (site_lines sheet))
head-parts sheet clean = (code, site) where
  few : length sheet ≤ 65536
  few = ⊎_elim (λ l. absurd (clean (at Sheet 1 1) (inl (l, refl)))) (λ l. l) (cases_lt 65536 (length sheet))

  code : Clean (CodeFault 1 (lines_of sheet))
  code f h = clean f (inr (few, inl h))

  long : 3 ≤ length (lines_of sheet)
  long = ⊎_elim (λ l. absurd (code (at Sheet (1 + length (lines_of sheet)) 1) (inl (l, refl)))) (λ l. l) (cases_lt (length (lines_of sheet)) 3)

  site : Clean (SitePartFault 4 (site_lines sheet))
  site f h = clean f (inr (few, inr (long, h)))

-- the values of a code part with no fault are words
pub code_words : (n : ℕ) (ls : List (List ℕ)) (v : CodeValues) → Clean (CodeFault n ls) → CodeText ls v → CodeWords v
code_words n ls v clean (is, o, text) =
    let fits = text-fits Numbers (code_text v) code_names (get_or ls 0 []) is (n + 1) (get_or ls 1 []) o text (λ f h. clean f (inr (inr (inl (is, o, h))))) in
    let word : (j u : ℕ) → j < 4 → code_text v j ≡ decimal u → u ≤ 4294967295 = λ j u h e. number_within 4294967295 u (omega arith) (subst (Fit (Number 4294967295)) e (fits j h)) in
    (word 0 v.n (omega arith) refl, word 1 v.k (omega arith) refl, word 2 v.c (omega arith) refl, word 3 v.targets (omega arith) refl)

-- the two numbers of a regular site with no fault are words, and the line that ends its part is empty or missing
pub regular-words : (n : ℕ) (ls : List (List ℕ)) (racks each : ℕ) → Clean (SitePartFault n ls) → RegularSaid ls racks each → Word racks × Word each × (get_or ls 2 [] ≡ [])
regular-words n [] racks each clean said = absurd (clean (at Sheet n 1) refl)
regular-words n (l ∷ ls) racks each clean (is, o, text) =
    let fits = text-fits Numbers (regular_text racks each) regular_names l is (n + 1) (get_or ls 0 []) o text (λ f h. clean f (inr (inl (is, o, inl h)))) in
    (number_within 4294967295 racks (omega arith) (fits 0 (omega arith)), number_within 4294967295 each (omega arith) (fits 1 (omega arith)), no_bytes (get_or ls 1 []) end) where
      end : length (get_or ls 1 []) ≡ 0
      end = ⊎_elim (λ l. absurd (clean (at Count (n + 1 + 1) 1) (inr (inl (is, o, inr (l, refl)))))) (λ l. omega arith) (cases_lt 0 (length (get_or ls 1 [])))

-- the racks of node lines with no fault are below 32
nodes-racked : (names is : List ℕ) → InOrder node_names names is → (n count : ℕ) (ls : List (List ℕ)) (ps : List Place) → Clean (NodesFault is n count ls) → NodesText is count ls ps → AllByRecursion (λ p. p.0.0 < 32) ps
nodes-racked names is o n count ls [] clean text = tt
nodes-racked names is o n count [] (p ∷ ps) clean text = absurd text
nodes-racked names is o n count ([] ∷ ls) (p ∷ ps) clean text = absurd text
nodes-racked names is o n count ((b ∷ bs) ∷ ls) (p ∷ ps) clean text =
    let fits = text-fits (Node count) (node_text count p) node_names names is n (b ∷ bs) o text.0 (λ f h. clean f (inl h)) in
    let rack = number_within 31 p.0.0 (omega arith) (fits 1 (omega arith)) in
    (omega arith, nodes-racked names is o (n + 1) (count + 1) ls ps (λ f h. clean f (inr h)) text.1)

-- and so are those of a listing
pub listing-racked : (n : ℕ) (ls : List (List ℕ)) (ps : List Place) → Clean (SitePartFault n ls) → ListingSaid ls ps → AllByRecursion (λ p. p.0.0 < 32) ps
listing-racked n [] ps clean said = absurd (clean (at Sheet n 1) refl)
listing-racked n (l ∷ ls) ps clean (is, o, text) = nodes-racked l is o (n + 1) 0 ls ps (λ f h. clean f (inr (inr (is, o, h)))) text
