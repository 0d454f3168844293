-- The earliest fault of a node listing, line after line, and the places that its lines say.
use Rattle.std.proofs.Common.{◌≡◌, ℕ, zero, suc, ◌+◌, ◌<◌, ◌≤◌, true, false, cond, eqb, ◌⊎◌, List, [], ◌∷◌, ◌++◌, length, take, drop, set, Some, None, decimal, sym, refl, ap, ◌∙◌, subst, inl, inr, ⊎_elim, append_assoc, append-nil, arith}
use Rattle.std.specs.Str.Parse.{digits_value}
use Rattle.std.specs.List.{AllByRecursion}
use Rattle.std.proofs.lemmas.List.{take_more_set, drop-set-lt, drop-drop, take_all}
use Rattle.std.proofs.lemmas.Bool.{cases_Bool, both_ways, cases_eq, cases_lt, eqb-true, or_cases, lt-ltb}
use Rattle.std.proofs.ByRecursion.{All-push}
use Rattle.site.specs.Site.{Place}
use Rattle.site.specs.Maps.{window, listed}
use Rattle.text.specs.Faults.{Least}
use Rattle.text.specs.Numbers.{is_number}
use Rattle.text.specs.Orders.{elem}
use Rattle.text.specs.Pieces.{parted}
use Rattle.text.specs.Rows.{NextLine}
use Rattle.text.specs.declared.lines.Line.{Line}
use Rattle.text.specs.declared.fault.Fault.{Fault}
use Rattle.text.specs.declared.fault.FaultKind.TheVariants as kind
use Rattle.text.proofs.NumberLaws.{number_is, number-taken}
use Rattle.reader.specs.declared.form.Form.TheVariants.{Node}
use Rattle.reader.specs.declared.form.Want.TheVariants.{Next, Keep}
use Rattle.reader.specs.Wants.{Fit, mark_text, want_of}
use Rattle.reader.specs.Rows.{RowFault, Clean, named}
use Rattle.reader.specs.Names.{node_names}
use Rattle.reader.specs.Listings.{NodeOrder, NodesFault, NodeText, node_text, NodesText, NodeRead, NodesRead, past_part, past_number}
use Rattle.reader.proofs.LineLaws.{line-is, line-none, no_bytes}
use Rattle.reader.proofs.RowLaws.{Same, row_line, clean-same}
use Rattle.reader.proofs.FieldLaws.{FitsRow, row_fits, row-text}
use Rattle.reader.proofs.NameLaws.{order-names}
use Rattle.reader.proofs.PickLaws.{picks-all}
use Rattle.reader.proofs.CodeLaws.{ReadAs}

-- a node whose number fits is one of the first 256
fit-few : (count : ℕ) (bs : List ℕ) → Fit (Next count) bs → count ≤ 255
fit-few count bs fit = ⊎_elim (λ h. h) (λ h. absurd (by (cases_Bool (is_number 4294967295 bs)) h)) (order (cases_lt 255 count)) where
  order : (255 < count) ⊎ (count ≤ 255) → (count ≤ 255) ⊎ (255 < count)
  order h = ⊎_elim inr inl h

  by : (is_number 4294967295 bs ≡ true) ⊎ (is_number 4294967295 bs ≡ false) → 255 < count → ⊥
  by t h =
      ⊎_elim
      (λ t. let p = number_is 4294967295 bs (omega arith) t in
      fit kind.Node (inr (refl, (digits_value 10 bs, p.0, p.1, ⊎_elim (λ e. inr (omega (arith, e, h))) inl (cases_eq (digits_value 10 bs) count)))))
      (λ t. fit kind.Field (inl (refl, λ v l e. both_ways _ t (number-taken 4294967295 bs v (omega arith) l e))))
      t

row-few : (count : ℕ) (is : List ℕ) (fs : List (List ℕ)) → elem 0 is ≡ true → FitsRow (Node count) is fs → count ≤ 255
row-few count [] fs e fits = absurd (both_ways false refl e)
row-few count (i ∷ is) [] e fits = absurd fits
row-few count (i ∷ is) (f ∷ fs) e fits =
    ⊎_elim (λ p. fit-few count f (subst (λ j. Fit (want_of (Node count) j) f) (eqb-true i 0 p) fits.0)) (λ p. row-few count is fs p fits.1) (or_cases (eqb i 0) (elem 0 is) e)

pub node-read : (is : List ℕ) (n count : ℕ) (line : List ℕ) (p : Place) → NodeOrder is → Clean (RowFault (Node count) is n line) → ReadAs is (parted 44 line) 1 31 p.0.0 → p.0.0 ≤ 31 → ((f : List ℕ) → named is 2 (parted 44 line) ≡ Some f → Fit Keep f → f ≡ mark_text p.1) → NodeRead is n count line p
node-read is n count line p (names, o) clean rack low mark = record {
  clean = clean;
  text = row-text (Node count) (node_text count p) is (parted 44 line) o.once fits (λ j g e. said j g (order-names node_names names is o j e));
  few = few;
  racked = omega (arith, low);
} where
  fits : FitsRow (Node count) is (parted 44 line)
  fits = row_fits (Node count) is n line clean

  few : count ≤ 255
  few = row-few count is (parted 44 line) (picks-all 3 is o.all o.once o.names 0 (omega arith)) fits

  said : (j : ℕ) (g : List ℕ) → j < 3 → named is j (parted 44 line) ≡ Some g → Fit (want_of (Node count) j) g → g ≡ node_text count p j
  said zero g h e fit = own g (cases_Bool (is_number 4294967295 g)) fit where
    own : (g : List ℕ) → (is_number 4294967295 g ≡ true) ⊎ (is_number 4294967295 g ≡ false) → Fit (Next count) g → g ≡ decimal count
    own g t fit =
        ⊎_elim
        (λ t. let p = number_is 4294967295 g (omega arith) t in
        ⊎_elim (λ e. p.1 ∙ ap decimal e) (λ ne. absurd (fit kind.Node (inr (refl, (digits_value 10 g, p.0, p.1, inl ne))))) (cases_eq (digits_value 10 g) count))
        (λ t. absurd (fit kind.Field (inl (refl, λ v l e. both_ways _ t (number-taken 4294967295 g v (omega arith) l e)))))
        t
  said (suc zero) g h e fit = rack g e fit
  said (suc (suc zero)) g h e fit = mark g e fit
  said (suc (suc (suc j))) g h e fit = absurd (omega arith)

pub nodes-line : (is : List ℕ) (n count : ℕ) (ls : List (List ℕ)) (f : Fault) → NodesFault is n count ls f → n ≤ f.place.line
nodes-line is n count [] f h = absurd h
nodes-line is n count ([] ∷ ls) f h = absurd h
nodes-line is n count ((b ∷ bs) ∷ ls) f h = ⊎_elim (λ p. omega (arith, row_line (Node count) is n (b ∷ bs) f p)) (λ p. omega (arith, nodes-line is (n + 1) (count + 1) ls f p)) h

-- one node line: its fault is the earliest, or what follows has the faults
module _ (is : List ℕ) (n count : ℕ) where
  pub node-wrong : (l : List ℕ) (ls : List (List ℕ)) (f : Fault) → 0 < length l → Least (RowFault (Node count) is n l) f → Least (NodesFault is n count (l ∷ ls)) f
  node-wrong [] ls f h least = absurd (omega arith)
  node-wrong (b ∷ bs) ls f h least = record {
    there = inl least.there;
    first = λ g. ⊎_elim (least.first g) (λ p. inl (omega (arith, row_line (Node count) is n (b ∷ bs) f least.there, nodes-line is (n + 1) (count + 1) ls g p)));
  }

  pub node-right : (l : List ℕ) (ls : List (List ℕ)) → 0 < length l → Clean (RowFault (Node count) is n l) → Same (NodesFault is (n + 1) (count + 1) ls) (NodesFault is n count (l ∷ ls))
  node-right [] ls h clean f = absurd (omega arith)
  node-right (b ∷ bs) ls h clean f = (inr, ⊎_elim (λ p. absurd (clean f p)) (λ p. p))

  pub node-said : (l : List ℕ) (ls : List (List ℕ)) (p : Place) (ps : List Place) → 0 < length l → NodeText is count l p → NodesText is (count + 1) ls ps → NodesText is count (l ∷ ls) (p ∷ ps)
  node-said [] ls p ps h t ts = absurd (omega arith)
  node-said (b ∷ bs) ls p ps h t ts = (t, ts)

  pub past-node : (l : List ℕ) (ls : List (List ℕ)) → 0 < length l → (past_part ls ≡ past_part (l ∷ ls)) × (past_number (n + 1) ls ≡ past_number n (l ∷ ls))
  past-node [] ls h = absurd (omega arith)
  past-node (b ∷ bs) ls h = (refl, refl)

  pub no_more : (ls : List (List ℕ)) → (ls ≡ []) → Clean (NodesFault is n count ls) × NodesText is count ls [] × (past_part ls ≡ []) × (past_number n ls ≡ n)
  no_more ls e = subst (λ l. Clean (NodesFault is n count l) × NodesText is count l [] × (past_part l ≡ []) × (past_number n l ≡ n)) (sym e) ((λ f h. h), tt, refl, refl)

  pub ended : (ls : List (List ℕ)) (after : List (List ℕ)) → ls ≡ [] ∷ after → Clean (NodesFault is n count ls) × NodesText is count ls [] × (past_part ls ≡ after) × (past_number n ls ≡ n + 1)
  ended ls after e = subst (λ l. Clean (NodesFault is n count l) × NodesText is count l [] × (past_part l ≡ after) × (past_number n l ≡ n + 1)) (sym e) ((λ f h. h), tt, refl, refl)

-- the table after one more entry
pub front-more : (table : List Place) (i : ℕ) (p : Place) (ps : List Place) → i < length table → take (i + 1) (set table i p) ++ ps ≡ take i table ++ p ∷ ps
front-more table i p ps h = ap (λ l. l ++ ps) (take_more_set table i p h) ∙ append_assoc (take i table) (p ∷ []) ps

pub back_more : (was table : List Place) (i : ℕ) (p : Place) → drop i table ≡ drop i was → drop (i + 1) (set table i p) ≡ drop (i + 1) was
back_more was table i p e = drop-set-lt (i + 1) table i p (omega arith) ∙ sym (drop-drop 1 i table) ∙ ap (drop 1) e ∙ drop-drop 1 i was

pub racked-more : (table : List Place) (i : ℕ) (p : Place) → i < length table → AllByRecursion (λ q. q.0.0 < 32) (take i table) → p.0.0 < 32 → AllByRecursion (λ q. q.0.0 < 32) (take (i + 1) (set table i p))
racked-more table i p h a r = subst (AllByRecursion (λ q. q.0.0 < 32)) (sym (take_more_set table i p h)) (All-push (λ q. q.0.0 < 32) (take i table) p a r)

window-whole : (n : ℕ) (ps : List Place) → length ps ≤ n → AllByRecursion (λ p. p.0.0 < 32) ps → window n ps ≡ ps
window-whole zero [] h a = refl
window-whole zero (p ∷ ps) h a = absurd (omega arith)
window-whole (suc n) [] h a = refl
window-whole (suc n) (p ∷ ps) h a = ap (λ b. cond b (p ∷ window n ps) []) (lt-ltb p.0.0 32 a.0) ∙ ap (λ l. p ∷ l) (window-whole n ps (omega arith) a.1)

pub length_front : (n : ℕ) (ps : List Place) → length (take n ps) ≤ n
length_front zero ps = omega arith
length_front (suc n) [] = omega arith
length_front (suc n) (p ∷ ps) = omega (arith, length_front n ps)

-- a listed map over places that were read means just those
pub listed-whole : (n : ℕ) (table : List Place) → n ≤ 256 → AllByRecursion (λ p. p.0.0 < 32) (take n table) → listed (take n table) ≡ take n table
listed-whole n table h a = window-whole 256 (take n table) (omega (arith, length_front n table)) a

-- one turn: a line that is not empty was read
module _ (is : List ℕ) (n count : ℕ) (ls : List (List ℕ)) (line : Line) (after : List (List ℕ)) (m : ℕ) (t : NextLine ls n (Some line) after m) (short : length line.bytes.now ≤ 65536) (some : 0 < length line.bytes.now) where
  lines_are : ls ≡ line.bytes.now ∷ after
  lines_are = (line-is ls n line after m t).0

  row_is : RowFault (Node count) is line.number (take 65536 line.bytes.now) ≡ RowFault (Node count) is n line.bytes.now
  row_is = λ x. RowFault (Node count) is ((line-is ls n line after m t).1 x) (take_all 65536 line.bytes.now short x)

  pub turn-wrong : (f : Fault) → Least (RowFault (Node count) is line.number (take 65536 line.bytes.now)) f → Least (NodesFault is n count ls) f
  turn-wrong f least = subst (λ l. Least (NodesFault is n count l) f) (sym lines_are) (node-wrong is n count line.bytes.now after f some (subst (λ P. Least P f) row_is least))

  pub turn-right : Clean (RowFault (Node count) is line.number (take 65536 line.bytes.now)) → Same (NodesFault is m (count + 1) after) (NodesFault is n count ls)
  turn-right clean =
      subst (λ l. Same (NodesFault is m (count + 1) after) (NodesFault is n count l)) (sym lines_are)
      (subst (λ k. Same (NodesFault is k (count + 1) after) (NodesFault is n count (line.bytes.now ∷ after))) (sym (line-is ls n line after m t).2) (node-right is n count line.bytes.now after some (subst Clean row_is clean)))

  pub turn-said : (p : Place) (ps : List Place) → NodeText is count (take 65536 line.bytes.now) p → NodesText is (count + 1) after ps → NodesText is count ls (p ∷ ps)
  turn-said p ps text more =
      subst (λ l. NodesText is count l (p ∷ ps)) (sym lines_are)
      (node-said is n count line.bytes.now after p ps some (subst (λ bs. NodeText is count bs p) (take_all 65536 line.bytes.now short) text) more)

  pub turn-past : (past_part after ≡ past_part ls) × (past_number m after ≡ past_number n ls)
  turn-past =
      let e = past-node is n count line.bytes.now after some in
      (e.0 ∙ ap past_part (sym lines_are), ap (λ k. past_number k after) (line-is ls n line after m t).2 ∙ e.1 ∙ ap (past_number n) (sym lines_are))

-- the listing is read as far as it goes
module _ (is : List ℕ) (n₀ : ℕ) (ls₀ : List (List ℕ)) (was table : List Place) (count n : ℕ) (ls : List (List ℕ)) (same : Same (NodesFault is n count ls) (NodesFault is n₀ 0 ls₀)) (said : (ps : List Place) → NodesText is count ls ps → NodesText is 0 ls₀ (take count table ++ ps)) (back : drop count table ≡ drop count was) (past : past_part ls ≡ past_part ls₀) (number : past_number n ls ≡ past_number n₀ ls₀) (few : count ≤ 256) (racked : AllByRecursion (λ p. p.0.0 < 32) (take count table)) (after : List (List ℕ)) (m : ℕ) where
  all_read : Clean (NodesFault is n count ls) → NodesText is count ls [] → after ≡ past_part ls → m ≡ past_number n ls → NodesRead is n₀ ls₀ count was table after m
  all_read clean text e f = record {
    clean = clean-same (NodesFault is n count ls) (NodesFault is n₀ 0 ls₀) same clean;
    text = subst (NodesText is 0 ls₀) (append-nil (take count table)) (said [] text);
    few = few;
    racked = racked;
    back = back;
    after_it = e ∙ past;
    next = f ∙ number;
  }

  pub read-to-end : NextLine ls n None after m → NodesRead is n₀ ls₀ count was table after m
  read-to-end t =
      let none = line-none ls n after m t in
      let e = no_more is n count ls none.0 in
      all_read e.0 e.1 (none.1 ∙ sym e.2) (none.2 ∙ sym e.3)

  pub read-to-empty : (line : Line) → NextLine ls n (Some line) after m → length line.bytes.now ≡ 0 → NodesRead is n₀ ls₀ count was table after m
  read-to-empty line t z =
      let one = line-is ls n line after m t in
      let e = ended is n count ls after (one.0 ∙ ap (λ l. l ∷ after) (no_bytes line.bytes.now z)) in
      all_read e.0 e.1 (sym e.2) (one.2 ∙ sym e.3)
