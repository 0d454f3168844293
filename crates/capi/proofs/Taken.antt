-- One more block read, and nodes written into a buffer.
use Rattle.std.proofs.Common.{◌≡◌, ℕ, zero, suc, ◌+◌, ◌-◌, ◌<◌, ◌≤◌, List, [], ◌∷◌, ◌++◌, map, length, get_or, take, drop, set, Some, None, Option, Result, MatchOption, MatchResult, sym, refl, ap, ◌∙◌, subst, arith, length-take}
use Rattle.std.specs.List.{range_with_len, slice_range}
use Rattle.std.proofs.lemmas.List.{map_push, length-map, length-drop, take_all}
use Rattle.std.proofs.lemmas.List.FromFn.{map-range_with_len_more}
use Rattle.std.specs.Option.{ok_or}
use Rattle.site.specs.declared.Node.{Node}
use Rattle.blocks.specs.Blocks.{copies_of, numbers}
use Rattle.blocks.specs.Lists.{lists_of}
use Rattle.text.specs.Texts.{whole}
use Rattle.blocks.specs.declared.block.Block.{Block}
use Rattle.capi.specs.declared.refused.Refused.{Refused}
use Rattle.capi.specs.declared.refused.Refused.TheVariants.{ListLength}
use Rattle.capi.specs.Lists.{list_at, Sized}

pub one-read : (vs ns : List ℕ) (i : ℕ) (before after : List Block) (b : Block) → lists_of before ≡ map (list_at vs ns) (range_with_len 0 i)
    → copies_of b ≡ list_at vs ns i → after ≡ before ++ (b ∷ []) → lists_of after ≡ map (list_at vs ns) (range_with_len 0 (i + 1))
one-read vs ns i before after b e f p =
    ap lists_of p ∙ map_push copies_of before b ∙ ap (λ l. l ++ (copies_of b ∷ [])) e ∙ ap (λ x. map (list_at vs ns) (range_with_len 0 i) ++ (x ∷ [])) f
    ∙ sym (map-range_with_len_more (list_at vs ns) 0 i i (omega arith))

abbrev Block-told : List ℕ → Result Block Refused → Type 0
Block-told list r = MatchResult r (λ b. Sized (length list) × (copies_of b ≡ list)) (λ e. (e ≡ ListLength) × (Sized (length list) → ⊥))

-- nine nodes of a list are enough to see whether it is a block's
pub block-read : (list : List ℕ) (nodes : List Node) (o : Option Block) (r : Result Block Refused) → numbers nodes ≡ take 9 list
    → MatchOption o ((2 ≤ length nodes) × (length nodes ≤ 8) → ⊥) (λ b. (b.number ≡ 0) × (copies_of b ≡ numbers nodes)) → r ≡ ok_or o ListLength → Block-told list r
block-read list nodes o r e m is = subst (λ (x : Result Block Refused). Block-told list x) (sym is) (by o m) where
  n : length nodes ≡ length (take 9 list)
  n = sym (length-map nodes (λ (v : Node). v.0)) ∙ ap length e

  by : (o : Option Block) → MatchOption o ((2 ≤ length nodes) × (length nodes ≤ 8) → ⊥) (λ b. (b.number ≡ 0) × (copies_of b ≡ numbers nodes)) → Block-told list (ok_or o ListLength)
  by None m = (refl, λ h. m (omega (arith, h, n, length-take 9 list), omega (arith, h, n, length-take 9 list)))
  by (Some b) m =
      let c : copies_of b ≡ take 9 list = m.1 ∙ e in
      let k : length b.nodes ≡ length (take 9 list) = sym (length-map b.nodes (λ (v : Node). v.0)) ∙ ap length c in
      let few : length list ≤ 8 = omega (arith, b.few, k, length-take 9 list) in
      ((omega (arith, b.enough, k, length-take 9 list), few), c ∙ take_all 9 list (omega arith))

-- the front of what is left of the entries
pub entries-front : (vs : List ℕ) (m n : ℕ) → slice_range (take (length vs - m) (drop m vs)) 0 n ≡ take n (drop m vs)
entries-front vs m n =
    let xs : List ℕ = take (length vs - m) (drop m vs) in
    let none : n - 0 ≡ n = omega arith in
    ap (λ k. take k xs) none ∙ ap (take n) (take_all (length vs - m) (drop m vs) (omega (arith, length-drop m vs)))

-- the numbers of nodes, at an index
pub number_at : (vs : List Node) (i : ℕ) → i < length vs → get_or (numbers vs) i 0 ≡ (get_or vs i (record { 0 = 0 })).0
number_at [] i h = absurd (omega arith)
number_at (v ∷ vs) zero h = refl
number_at (v ∷ vs) (suc i) h = number_at vs i (omega arith)

-- one number more, as far as a buffer has room
pub whole-more : (was ns : List ℕ) (i v : ℕ) → i < length ns → get_or ns i 0 ≡ v → set (whole was (take i ns)) i v ≡ whole was (take (suc i) ns)
whole-more was [] i v h e = absurd (omega arith)
whole-more [] (n ∷ ns) zero v h e = refl
whole-more [] (n ∷ ns) (suc i) v h e = refl
whole-more (w ∷ []) (n ∷ ns) zero v h e = ap (λ x. x ∷ []) (sym e)
whole-more (w ∷ x ∷ was) (n ∷ ns) zero v h e = ap (λ y. y ∷ x ∷ was) (sym e)
whole-more (w ∷ was) (n ∷ ns) (suc i) v h e = ap (λ l. n ∷ l) (whole-more was ns i v (omega arith) e)
