-- What is written reads back.
use Rattle.std.proofs.Common.{◌≡◌, ℕ, zero, suc, ◌+◌, ◌<◌, ◌≤◌, true, false, cond, eqb, List, [], ◌∷◌, map, length, get_or, take, drop, Some, decimal, sym, refl, ap, ◌∙◌, subst, ⊎_elim, arith}
use Rattle.std.specs.List.{AllByRecursion}
use Rattle.std.proofs.lemmas.Bool.{eq-eqb, or_left, or_right, or_cases, eqb-true, both_ways}
use Rattle.site.specs.Site.{Place}
use Rattle.site.specs.declared.Mark.{Mark}
use Rattle.site.specs.declared.Mark.TheVariants.{Yes, No}
use Rattle.text.specs.Cells.{Cell, cells}
use Rattle.text.specs.Orders.{elem, Apart}
use Rattle.text.specs.Pieces.{parted, lines_of}
use Rattle.reader.specs.declared.calls.Asked.{Asked}
use Rattle.reader.specs.declared.calls.Asked.TheVariants.{Offer, Seal, Plan, Deletions, Release, Abandon}
use Rattle.reader.specs.declared.calls.CallLine.{CallLine}
use Rattle.reader.specs.declared.code.CodeValues.{CodeValues}
use Rattle.reader.specs.declared.form.Form.{Form}
use Rattle.reader.specs.declared.form.Form.TheVariants.{Numbers, Node, Call}
use Rattle.reader.specs.declared.form.Want.TheVariants.{Number, Next}
use Rattle.reader.specs.declared.sites.SiteValues.{SiteValues}
use Rattle.reader.specs.declared.sites.SiteValues.TheVariants.{Regular, Listed}
use Rattle.reader.specs.Wants.{Fit, want_of, say_of, mark_text}
use Rattle.reader.specs.Rows.{FaultAt, RowFault, Clean, named}
use Rattle.reader.specs.Names.{code_names, regular_names, node_names, call_names, InOrder}
use Rattle.reader.specs.Codes.{CodeFault, CodeText, code_text}
use Rattle.reader.specs.Listings.{NodesFault, node_text, NodesText}
use Rattle.reader.specs.Sites.{RegularFault, regular_text, SitePartFault, SiteText}
use Rattle.reader.specs.Calls.{call_of, call_form, call_act, RestText, call_text}
use Rattle.reader.specs.Codes.{Word, CodeWords}
use Rattle.reader.specs.Listings.{Places}
use Rattle.laws.specs.Backs.{SiteWords, HeadReadsBack, OneCode, OneSite, AskedWords, CallReadsBack}
use Rattle.reader.proofs.WantLaws.{no_such, letter-back}
use Rattle.reader.proofs.RowLaws.{clean-same}
use Rattle.reader.proofs.FieldLaws.{bytes_of, bytes-from}
use Rattle.reader.proofs.NameLaws.{code_apart, regular-apart, node-apart, one-order, order-names}
use Rattle.reader.proofs.PickLaws.{picks-all}
use Rattle.reader.proofs.SiteLaws.{regular-same, listed_same, two-or-three}

-- fields that fit have no fault
clean_at : (form : Form) (t : ℕ → List ℕ) (line end : ℕ) (is : List ℕ) (cs : List Cell) → bytes_of cs ≡ map t is → ((j : ℕ) → elem j is ≡ true → Fit (want_of form j) (t j)) → Clean (FaultAt form line end is cs)
clean_at form t line end [] [] e fit f h = h
clean_at form t line end [] (c ∷ cs) e fit f h = let z : ◌≡◌ {A = ℕ} 0 1 = cc in omega arith
clean_at form t line end (i ∷ is) [] e fit f h = let z : ◌≡◌ {A = ℕ} 0 1 = cc in omega arith
clean_at form t line end (i ∷ is) (c ∷ cs) e fit f h =
    let here : c.bytes ≡ t i = cc in
    let more : bytes_of cs ≡ map t is = cc in
    ⊎_elim
    (λ p. subst (Fit (want_of form i)) (sym here) (fit i (or_left (eqb i i) (elem i is) (eq-eqb i i refl))) p.0 p.1)
    (clean_at form t line end is cs more (λ j m. fit j (or_right (eqb i j) (elem j is) m)) f)
    h

text-clean : (form : Form) (t : ℕ → List ℕ) (is : List ℕ) (n : ℕ) (line : List ℕ) → parted 44 line ≡ map t is → ((j : ℕ) → elem j is ≡ true → Fit (want_of form j) (t j)) → Clean (RowFault form is n line)
text-clean form t is n line e fit = clean_at form t n (1 + length line) is (cells line) (bytes-from 1 (parted 44 line) ∙ e) fit

number_fits : (limit v : ℕ) → v ≤ limit → Fit (Number limit) (decimal v)
number_fits limit v h k m = m.1 v h refl

next_fits : (count : ℕ) → count ≤ 255 → Fit (Next count) (decimal count)
next_fits count h k m =
    ⊎_elim (λ p. p.1 count (omega arith) refl) (λ p.
    let same = no_such (decimal count) count refl (omega arith) p.1.0 p.1.2 p.1.1 in
    ⊎_elim (λ q. q same) (λ q. omega (arith, q, same)) p.1.3) m

-- the code
pub same_map : (t u : ℕ → List ℕ) (is : List ℕ) → map t is ≡ map u is → (j : ℕ) → elem j is ≡ true → t j ≡ u j
same_map t u [] e j m = absurd (both_ways false refl m)
same_map t u (i ∷ is) e j m =
    let here : t i ≡ u i = cc in
    let more : map t is ≡ map u is = cc in
    ⊎_elim (λ p. subst (λ k. t k ≡ u k) (eqb-true i j p) here) (same_map t u is more j) (or_cases (eqb i j) (elem j is) m)

code_fits : (v : CodeValues) → CodeWords v → (j : ℕ) → j < 4 → Fit (Number 4294967295) (code_text v j)
code_fits v words zero h = number_fits 4294967295 v.n words.0
code_fits v words (suc zero) h = number_fits 4294967295 v.k words.1
code_fits v words (suc (suc zero)) h = number_fits 4294967295 v.c words.2
code_fits v words (suc (suc (suc zero))) h = number_fits 4294967295 v.targets words.3
code_fits v words (suc (suc (suc (suc j)))) h = absurd (omega arith)

code-back : (n : ℕ) (ls : List (List ℕ)) (v : CodeValues) → CodeWords v → 3 ≤ length ls → get_or ls 2 [] ≡ [] → CodeText ls v → Clean (CodeFault n ls)
code-back n ls v words long end (is, o, text) f =
    ⊎_elim (λ p. omega (arith, p.0))
    (⊎_elim (λ p. p.1 is o)
    (⊎_elim (λ p. row (subst (λ js. RowFault Numbers js (n + 1) (get_or ls 1 []) f) (one-order code_names (get_or ls 0 []) p.0 is code_apart p.1 o) p.2))
    (λ p. omega (arith, p.0, ap length end)))) where
      row : RowFault Numbers is (n + 1) (get_or ls 1 []) f → ⊥
      row = text-clean Numbers (code_text v) is (n + 1) (get_or ls 1 []) text (λ j m. code_fits v words j (order-names code_names (get_or ls 0 []) is o j m)) f

pub same_word : (a b : ℕ) → Word a → Word b → decimal a ≡ decimal b → a ≡ b
same_word a b p q e = no_such (decimal b) b refl q a (sym e) p

-- two texts of one line, by their names
two-texts : (names : List (List ℕ)) (apart : Apart names) (head line is js : List ℕ) (t u : ℕ → List ℕ) → InOrder names head is → InOrder names head js → parted 44 line ≡ map t is → parted 44 line ≡ map u js → (j : ℕ) → j < length names → t j ≡ u j
two-texts names apart head line is js t u o p a b j h =
    same_map t u is (sym a ∙ b ∙ ap (map u) (one-order names head js is apart p o)) j (picks-all (length names) is o.all o.once o.names j h)

pub one_code : OneCode
one_code ls v w words others (is, o, a) (js, p, b) =
    let at : (j : ℕ) → j < 4 → code_text w j ≡ code_text v j = two-texts code_names code_apart (get_or ls 0 []) (get_or ls 1 []) js is (code_text w) (code_text v) p o b a in
    (λ x. record {
      n = same_word w.n v.n others.0 words.0 (at 0 (omega arith)) x;
      k = same_word w.k v.k others.1 words.1 (at 1 (omega arith)) x;
      c = same_word w.c v.c others.2 words.2 (at 2 (omega arith)) x;
      targets = same_word w.targets v.targets others.3 words.3 (at 3 (omega arith)) x;
    })

-- the site
regular-back : (n : ℕ) (ls : List (List ℕ)) (racks each : ℕ) (table : List Place) → Word racks → Word each → get_or ls 2 [] ≡ [] → SiteText ls (Regular racks each) table → Clean (SitePartFault n ls)
regular-back n [] racks each table a b end (is, o, text) = absurd (none o.all o.fields) where
  none : length is ≡ 2 → [] ≡ map (λ i. get_or regular_names i []) is → ⊥
  none l e = omega (arith, ap length e, length-of is) where
    length-of : (js : List ℕ) → length (map (λ i. get_or regular_names i []) js) ≡ length js
    length-of [] = refl
    length-of (j ∷ js) = ap suc (length-of js)
regular-back n (l ∷ ls) racks each table a b end (is, o, text) =
    clean-same (RegularFault is (n + 1) ls) (SitePartFault n (l ∷ ls)) (regular-same n l ls is o) (λ f. ⊎_elim (row f) (λ p. omega (arith, p.0, ap length end))) where
      fits : (j : ℕ) → j < 2 → Fit (Number 4294967295) (regular_text racks each j)
      fits zero h = number_fits 4294967295 racks a
      fits (suc zero) h = number_fits 4294967295 each b
      fits (suc (suc j)) h = absurd (omega arith)

      row : Clean (RowFault Numbers is (n + 1) (get_or ls 0 []))
      row = text-clean Numbers (regular_text racks each) is (n + 1) (get_or ls 0 []) text (λ j m. fits j (order-names regular_names l is o j m))

node-fits : (count : ℕ) (p : Place) → count ≤ 255 → p.0.0 < 32 → (j : ℕ) → j < 3 → Fit (want_of (Node count) j) (node_text count p j)
node-fits count p h r zero l = next_fits count h
node-fits count p h r (suc zero) l = number_fits 31 p.0.0 (omega arith)
node-fits count p h r (suc (suc zero)) l = λ k m. m.1 p.1 refl
node-fits count p h r (suc (suc (suc j))) l = absurd (omega arith)

nodes-clean : (names is : List ℕ) → InOrder node_names names is → (n count : ℕ) (ls : List (List ℕ)) (ps : List Place) → count + length ps ≤ 256 → AllByRecursion (λ p. p.0.0 < 32) ps → NodesText is count ls ps → Clean (NodesFault is n count ls)
nodes-clean names is o n count [] ps few racked text f h = h
nodes-clean names is o n count ([] ∷ ls) ps few racked text f h = h
nodes-clean names is o n count ((b ∷ bs) ∷ ls) [] few racked text f h = text
nodes-clean names is o n count ((b ∷ bs) ∷ ls) (p ∷ ps) few racked text f h =
    ⊎_elim
    (text-clean (Node count) (node_text count p) is n (b ∷ bs) text.0 (λ j m. node-fits count p (omega arith) racked.0 j (order-names node_names names is o j m)) f)
    (nodes-clean names is o (n + 1) (count + 1) ls ps (omega arith) racked.1 text.1 f)
    h

listing-back : (n : ℕ) (ls : List (List ℕ)) (nodes : ℕ) (table : List Place) → Places (take nodes table) → SiteText ls (Listed nodes) table → Clean (SitePartFault n ls)
listing-back n [] nodes table places (is, o, text) = absurd (none o.all o.fields) where
  none : length is ≡ 3 → [] ≡ map (λ i. get_or node_names i []) is → ⊥
  none l e = omega (arith, ap length e, length-of is) where
    length-of : (js : List ℕ) → length (map (λ i. get_or node_names i []) js) ≡ length js
    length-of [] = refl
    length-of (j ∷ js) = ap suc (length-of js)
listing-back n (l ∷ ls) nodes table places (is, o, text) =
    clean-same (NodesFault is (n + 1) 0 ls) (SitePartFault n (l ∷ ls)) (listed_same n l ls is o) (nodes-clean l is o (n + 1) 0 ls (take nodes table) (omega (arith, places.0)) places.1 text)

site-back : (n : ℕ) (ls : List (List ℕ)) (s : SiteValues) (table : List Place) → SiteWords s ls table → SiteText ls s table → Clean (SitePartFault n ls)
site-back n ls (Regular racks each) table words text = regular-back n ls racks each table words.0 words.1 words.2 text
site-back n ls (Listed nodes) table words text = listing-back n ls nodes table words text

pub head-back : HeadReadsBack
head-back sheet code site table short long end words text words' text' f =
    ⊎_elim (λ p. omega (arith, p.0)) (λ p. ⊎_elim (code-back 1 (lines_of sheet) code words long end text f) (λ q. site-back 4 (drop 3 (lines_of sheet)) site table words' text' f q.1) p.1)

same-mark : (m k : Mark) → mark_text m ≡ mark_text k → m ≡ k
same-mark Yes Yes e = refl
same-mark Yes No e = absurd (omega (arith, ap (λ l. get_or l 0 0) e))
same-mark No Yes e = absurd (omega (arith, ap (λ l. get_or l 0 0) e))
same-mark No No e = refl

pub same-places : (names is js : List ℕ) → InOrder node_names names is → InOrder node_names names js → (count : ℕ) (ls : List (List ℕ)) (ps qs : List Place) → AllByRecursion (λ p. p.0.0 < 32) ps → AllByRecursion (λ p. p.0.0 < 32) qs → NodesText is count ls ps → NodesText js count ls qs → ps ≡ qs
same-places names is js o p count [] [] [] r s a b = refl
same-places names is js o p count [] [] (y ∷ qs) r s a b = absurd b
same-places names is js o p count [] (x ∷ ps) qs r s a b = absurd a
same-places names is js o p count ([] ∷ ls) [] [] r s a b = refl
same-places names is js o p count ([] ∷ ls) [] (y ∷ qs) r s a b = absurd b
same-places names is js o p count ([] ∷ ls) (x ∷ ps) qs r s a b = absurd a
same-places names is js o p count ((c ∷ cs) ∷ ls) [] qs r s a b = absurd a
same-places names is js o p count ((c ∷ cs) ∷ ls) (x ∷ ps) [] r s a b = absurd b
same-places names is js o p count ((c ∷ cs) ∷ ls) (x ∷ ps) (y ∷ qs) r s a b =
    let at : (j : ℕ) → j < 3 → node_text count x j ≡ node_text count y j = two-texts node_names node-apart names (c ∷ cs) is js (node_text count x) (node_text count y) o p a.0 b.0 in
    let rack = same_word x.0.0 y.0.0 (omega (arith, r.0)) (omega (arith, s.0)) (at 1 (omega arith)) in
    let mark = same-mark x.1 y.1 (at 2 (omega arith)) in
    let more = same-places names is js o p (count + 1) ls ps qs r.1 s.1 a.1 b.1 in
    (λ i. (record { 0 = rack i }, mark i) ∷ more i)

pub one-site : OneSite
one-site ls (Regular racks each) (Regular racks' each') table table' w v (is, o, a) (js, p, b) =
    let at : (j : ℕ) → j < 2 → regular_text racks each j ≡ regular_text racks' each' j = two-texts regular_names regular-apart (get_or ls 0 []) (get_or ls 1 []) is js (regular_text racks each) (regular_text racks' each') o p a b in
    (same_word racks racks' w.0 v.0 (at 0 (omega arith)), same_word each each' w.1 v.1 (at 1 (omega arith)))
one-site ls (Regular racks each) (Listed nodes) table table' w v (is, o, a) (js, p, b) = two-or-three (get_or ls 0 []) is js o p
one-site ls (Listed nodes) (Regular racks each) table table' w v (is, o, a) (js, p, b) = two-or-three (get_or ls 0 []) js is p o
one-site ls (Listed nodes) (Listed nodes') table table' w v (is, o, a) (js, p, b) =
    same-places (get_or ls 0 []) is js o p 0 (drop 1 ls) (take nodes table) (take nodes' table') w.1 v.1 a b

-- a call
rest-fits : (asked : Asked) (rest : List ℕ) → AskedWords asked → RestText asked rest → Fit (say_of (call_act asked)) rest
rest-fits (Offer list) rest w (vs, all, kept, e) k m = m.1 vs all e
rest-fits (Seal node) rest w e k m = m.1 node w e
rest-fits Plan rest w e k m = m.1 e
rest-fits Deletions rest w e k m = m.1 e
rest-fits Release rest w e k m = m.1 e
rest-fits Abandon rest w e k m = m.1 e

call_fits : (call : CallLine) (rest : List ℕ) → Word call.first → AskedWords call.asked → RestText call.asked rest → (j : ℕ) → j < 3 → Fit (want_of (Call (Some (call_act call.asked))) j) (call_text call rest j)
call_fits call rest w ws text zero h = λ k m. m.1 (call_act call.asked) refl
call_fits call rest w ws text (suc zero) h = number_fits 4294967295 call.first w
call_fits call rest w ws text (suc (suc zero)) h = rest-fits call.asked rest ws text
call_fits call rest w ws text (suc (suc (suc j))) h = absurd (omega arith)

-- the field under a name of a text
named-text : (t : ℕ → List ℕ) (is : List ℕ) (j : ℕ) → elem j is ≡ true → named is j (map t is) ≡ Some (t j)
named-text t [] j m = absurd (both_ways false refl m)
named-text t (i ∷ is) j m =
    elim (eqb i j) as (λ b. eqb i j ≡ b → cond b (Some (t i)) (named is j (map t is)) ≡ Some (t j)) [
      | true ↦ λ e. ap (λ k. Some (t k)) (eqb-true i j e)
      | false ↦ λ e. named-text t is j (⊎_elim (λ p. absurd (both_ways (eqb i j) e p)) (λ p. p) (or_cases (eqb i j) (elem j is) m))
    ] refl

pub call_back : CallReadsBack
call_back is n line call (names, o) w ws (rest, said, text) =
    let a = call_act call.asked in
    let known : call_form is line ≡ Call (Some a) = ap Call (ap call_of (ap (named is 0) text ∙ named-text (call_text call rest) is 0 (picks-all 3 is o.all o.once o.names 0 (omega arith))) ∙ letter-back a) in
    subst (λ form. Clean (RowFault form is n line)) (sym known)
    (text-clean (Call (Some a)) (call_text call rest) is n line text (λ j m. call_fits call rest w ws said j (order-names call_names names is o j m)))
