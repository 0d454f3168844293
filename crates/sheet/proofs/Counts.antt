-- The positions of a set, counted from its word.
use Rattle.std.proofs.Common.{◌≡◌, ℕ, zero, suc, ◌+◌, ◌-◌, ◌<◌, true, false, cond, List, [], ◌∷◌, ◌++◌, filter, sym, ap, ◌∙◌, add-one, arith}
use Rattle.std.specs.List.{range_with_len, AllByRecursion}
use Rattle.std.proofs.lemmas.List.FromFn.{length-range_with_len, get_or-range_with_len}
use Rattle.std.proofs.lemmas.List.Elements.{filter-append}
use Rattle.std.proofs.ByRecursion.{all_kept_by, All-from_get_or}
use Rattle.std.proofs.lemmas.List.{append-nil}
use Rattle.site.specs.Words.{member}
use Rattle.sheet.specs.Replies.{positions}

counting_more : (a n : ℕ) → range_with_len a (n + 1) ≡ range_with_len a n ++ ((a + n) ∷ [])
counting_more a zero = let e : a ≡ a + 0 = omega arith in ap (λ x. x ∷ []) e
counting_more a (suc n) =
    let e : a + 1 + n ≡ a + suc n = omega arith in
    ap (range_with_len a) (add-one (suc n)) ∙ ap (λ l. a ∷ l) (ap (range_with_len (a + 1)) (sym (add-one n)) ∙ counting_more (a + 1) n ∙ ap (λ x. range_with_len (a + 1) n ++ (x ∷ [])) e)

-- the positions up to i
abbrev pub up_to : ℕ → ℕ → List ℕ
up_to w i = filter (λ p. member w (p - 1)) (range_with_len 1 i)

up_more : (w i : ℕ) → up_to w (i + 1) ≡ up_to w i ++ cond (member w i) ((i + 1) ∷ []) []
up_more w i =
    let one : 1 + i ≡ i + 1 = omega arith in
    let back : i + 1 - 1 ≡ i = omega arith in
    ap (filter (λ p. member w (p - 1))) (counting_more 1 i ∙ ap (λ x. range_with_len 1 i ++ (x ∷ [])) one)
    ∙ filter-append (λ p. member w (p - 1)) (range_with_len 1 i) ((i + 1) ∷ [])
    ∙ ap (λ x. up_to w i ++ cond (member w x) ((i + 1) ∷ []) []) back

pub up-yes : (w i : ℕ) → member w i ≡ true → up_to w (i + 1) ≡ up_to w i ++ ((i + 1) ∷ [])
up-yes w i h = up_more w i ∙ ap (λ b. up_to w i ++ cond b ((i + 1) ∷ []) []) h

pub up-no : (w i : ℕ) → member w i ≡ false → up_to w (i + 1) ≡ up_to w i
up-no w i h = up_more w i ∙ ap (λ b. up_to w i ++ cond b ((i + 1) ∷ []) []) h ∙ append-nil (up_to w i)

-- positions are at most 32
pub positions-low : (w : ℕ) → AllByRecursion (λ p. p < 100) (positions w)
unfolding positions
positions-low w =
    all_kept_by (λ p. member w (p - 1)) (λ p. p < 100) (range_with_len 1 32)
    (All-from_get_or (λ p. p < 100) (range_with_len 1 32) 0
    (λ i h. let k : i < 32 = omega (arith, length-range_with_len 1 32) in omega (arith, get_or-range_with_len 1 32 i 0 k)))

pub up-all : (w i : ℕ) → i ≡ 32 → up_to w i ≡ positions w
unfolding positions
up-all w i e = ap (up_to w) e
