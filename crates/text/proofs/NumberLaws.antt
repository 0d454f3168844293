-- The bytes that are taken for a number are the decimal text of its value, and every such text is taken.
use Rattle.std.proofs.Common.{◌≡◌, ℕ, zero, suc, ◌+◌, ◌-◌, ◌*◌, ◌^◌, ◌<◌, ◌≤◌, Bool, true, false, cond, not, ◌&&◌, eqb, ltb, leb, List, [], ◌∷◌, length, get_or, take, Some, None, decimal, Option, sym, refl, ap, ◌∙◌, subst, ⊎_elim, arith}
use Rattle.std.specs.Str.Parse.{digits_value, digits_value_after, AllDigits}
use Rattle.std.specs.Int.{IsInRange}
use Rattle.std.specs.Char.{digit_value}
use Rattle.std.proofs.lemmas.Fmt.{decimal_is_IsNumeral, decimal_nonempty, first_decimal, decimal-digits_value, decimal_digit, digits_decimal, digits_value-decimal, decimal_injective}
use Rattle.std.proofs.lemmas.Str.Parse.{digit_at, numerals_by_value, tells_digits, IsNumeralModel, tells_all_ascii_digits}
use Rattle.std.proofs.str.Laws.{order}
use Rattle.std.specs.Str.{all_ascii_digits}
use Rattle.std.specs.Bool.{then_some}
use Rattle.std.proofs.lemmas.Bool.{and_parts, leb-true, le-leb, both_ways}
use Rattle.std.proofs.lemmas.Bool.Decides.{nat_tests}
use Rattle.text.specs.Numbers.{is_number, number_in, Numbered}

pub digit-is : (b : ℕ) → 48 ≤ b → b ≤ 57 → digit_value b ≡ b - 48
digit-is b l h = grind arith

grows : (acc : ℕ) (cs : List ℕ) → acc ≤ digits_value_after 10 acc cs
grows acc [] = omega arith
grows acc (c ∷ cs) = omega (arith, grows (acc * 10 + digit_value c) cs)

part-le : (n acc : ℕ) (cs : List ℕ) → digits_value_after 10 acc (take n cs) ≤ digits_value_after 10 acc cs
part-le zero acc cs = grows acc cs
part-le (suc n) acc [] = omega arith
part-le (suc n) acc (c ∷ cs) = part-le n (acc * 10 + digit_value c) cs

module _ (bs : List ℕ) (v : ℕ) (lt : v < 2 ^ 64) (e : bs ≡ decimal v) where
  pub not-empty : 0 < length bs
  not-empty = omega (arith, ap length e, decimal_nonempty v lt)

  pub no-zero-first : get_or bs 0 0 ≡ 48 → 1 < length bs → ⊥
  no-zero-first z m =
      ⊎_elim
      (λ h. omega (arith, ap (λ l. get_or l 0 0) e, first_decimal v h lt))
      (λ h. omega (arith, ap length e, ap length (decimal_digit v (omega arith))))
      (order 0 v)

  pub all_digits : (i : ℕ) → i < length bs → IsInRange 48 57 (get_or bs i 0)
  all_digits i h = digit_at bs i (subst (AllDigits 10) (sym e) (decimal_is_IsNumeral v lt).0.1) h

  pub front-le : (n : ℕ) → digits_value 10 (take n bs) ≤ v
  front-le n = omega (arith, part-le n 0 bs, ap (digits_value 10) e, (decimal_is_IsNumeral v lt).1)

pub is-decimal : (bs : List ℕ) → AllDigits 10 bs → 0 < length bs → (get_or bs 0 0 ≡ 48 → length bs ≡ 1) → digits_value 10 bs < 2 ^ 64 → bs ≡ decimal (digits_value 10 bs)
is-decimal bs d n z h = sym (decimal-digits_value (numerals_by_value (AllDigits 10) tells_digits) bs d n z h)

own : IsNumeralModel (λ ds. all_ascii_digits ds ≡ true) (digits_value 10)
own = numerals_by_value _ tells_all_ascii_digits

empty-not : (bs : List ℕ) → not (eqb (length bs) 0) ≡ true → 0 < length bs
empty-not bs h = grind (arith, nat_tests)

one-zero : (bs : List ℕ) → not (eqb (get_or bs 0 0) 48 && ltb 1 (length bs)) ≡ true → 0 < length bs → get_or bs 0 0 ≡ 48 → length bs ≡ 1
one-zero bs h s z = grind (arith, nat_tests)

-- what is taken for a number is one's decimal text
pub number_is : (limit : ℕ) (bs : List ℕ) → limit < 2 ^ 64 → is_number limit bs ≡ true → (digits_value 10 bs ≤ limit) × (bs ≡ decimal (digits_value 10 bs))
number_is limit bs small h =
    let p = and_parts _ _ h in
    let q = and_parts _ _ p.0 in
    let d = and_parts _ _ q.1 in
    let le : digits_value 10 bs ≤ limit = leb-true _ limit p.1 in
    let some : 0 < length bs = empty-not bs q.0 in
    let lone : get_or bs 0 0 ≡ 48 → length bs ≡ 1 = λ z. one-zero bs d.1 some z in
    (le, sym (decimal-digits_value own bs d.0 some lone (omega (arith, le))))

-- and each one's is taken
pub number-taken : (limit : ℕ) (bs : List ℕ) (v : ℕ) → limit < 2 ^ 64 → v ≤ limit → bs ≡ decimal v → is_number limit bs ≡ true
number-taken limit bs v small le e =
    let lt : v < 2 ^ 64 = omega arith in
    let some = not-empty bs v lt e in
    let lone = no-zero-first bs v lt e in
    let digits = subst (λ ds. all_ascii_digits ds ≡ true) (sym e) (digits_decimal own v lt) in
    let is : digits_value 10 bs ≡ v = ap (digits_value 10) e ∙ digits_value-decimal own v lt in
    let fits : leb (digits_value 10 bs) limit ≡ true = le-leb _ limit (omega (arith, is)) in
    grind (arith, nat_tests, digits, fits, some, lone)

pub exact-is : (limit : ℕ) (bs : List ℕ) (r : Option ℕ) → limit < 2 ^ 64 → Numbered limit bs r → r ≡ number_in limit bs
exact-is limit bs (Some v) small h =
    let t = number-taken limit bs v small h.0 h.1 in
    let is : v ≡ digits_value 10 bs = sym (ap (digits_value 10) h.1 ∙ digits_value-decimal own v (omega (arith, h.0))) in
    ap Some is ∙ sym (ap (λ b. cond b (Some (digits_value 10 bs)) None) t)
exact-is limit bs None small h =
    elim (is_number limit bs) as (λ b. is_number limit bs ≡ b → None ≡ cond b (Some (digits_value 10 bs)) None) [ true ↦ λ t. (let n = number_is limit bs small t in absurd (h (digits_value 10 bs) n.0 n.1)) | false ↦ λ _. refl ] refl

-- both promises of a text that is no number's
pub none-told : (limit : ℕ) (bs : List ℕ) (r : Option ℕ) → r ≡ None → limit < 2 ^ 64 → Numbered limit bs None → (r ≡ number_in limit bs) × Numbered limit bs r
none-told limit bs (Some v) e small h = let z : ◌≡◌ {A = ℕ} 0 1 = cc in absurd (omega arith)
none-told limit bs None e small h = (exact-is limit bs None small h, h)

-- and of one whose value is this, if the limit lets it be
pub value-told : (limit : ℕ) (bs : List ℕ) (v : ℕ) (r : Option ℕ) → limit < 2 ^ 64 → bs ≡ decimal v → v < 2 ^ 64 → r ≡ then_some (leb v limit) v → (r ≡ number_in limit bs) × Numbered limit bs r
value-told limit bs v r small e lt is = by (leb v limit) refl where
  by : (b : Bool) → leb v limit ≡ b → (r ≡ number_in limit bs) × Numbered limit bs r
  by true t =
      let s : r ≡ Some v = is ∙ ap (λ b. then_some b v) t in
      subst (λ o. (o ≡ number_in limit bs) × Numbered limit bs o) (sym s) (exact-is limit bs (Some v) small (leb-true v limit t, e), (leb-true v limit t, e))
  by false t =
      none-told limit bs r (is ∙ ap (λ b. then_some b v) t) small (λ u h f. (let same = decimal_injective u v (omega arith) lt (sym f ∙ e) in both_ways (leb v limit) t (le-leb v limit (omega (arith, same)))))
