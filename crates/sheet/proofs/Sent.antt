-- The nodes of some numbers, in a list with room for a few.
use Rattle.std.proofs.Common.{◌≡◌, ℕ, ◌+◌, ◌<◌, min, List, [], ◌∷◌, ◌++◌, length, get_or, take, Ok, Err, Result, sym, ap, ◌∙◌, arith, length-take}
use Rattle.std.proofs.lemmas.List.{take_all, take_more, take-take, map_push, length-map, length-take-le}
use Rattle.site.specs.declared.Node.{Node}
use Rattle.blocks.specs.Blocks.{numbers}
use Rattle.fixed.proofs.Pushes.{Pushed}

module _ {T E : Type 0} (room : ℕ) (ws : List ℕ) (i : ℕ) (before after : List Node) (x : Node) where
  -- one number more, as long as there is room
  pub numbers-more : (r : Result T E) → Pushed room before after x r → i < length ws → x.0 ≡ get_or ws i 0 → numbers before ≡ take room (take i ws) → numbers after ≡ take room (take (i + 1) ws)
  numbers-more (Ok t) p low at e =
      let n : length before ≡ min room (length (take i ws)) = sym (length-map before (λ (v : Node). v.0)) ∙ ap length e ∙ length-take room (take i ws) in
      let m : length (take i ws) ≡ i = length-take-le i ws (omega arith) in
      let m' : length (take (i + 1) ws) ≡ i + 1 = length-take-le (i + 1) ws (omega arith) in
      let few : i < room = omega (arith, p.0) in
      ap numbers p.1 ∙ map_push (λ (v : Node). v.0) before x ∙ ap (λ l. l ++ (x.0 ∷ [])) (e ∙ take_all room (take i ws) (omega arith)) ∙ ap (λ v. take i ws ++ (v ∷ [])) at
      ∙ sym (take_more ws i 0 low) ∙ sym (take_all room (take (i + 1) ws) (omega arith))
  numbers-more (Err u) p low at e =
      let n : length before ≡ min room (length (take i ws)) = sym (length-map before (λ (v : Node). v.0)) ∙ ap length e ∙ length-take room (take i ws) in
      let m : length (take i ws) ≡ i = length-take-le i ws (omega arith) in
      ap numbers p.1 ∙ e ∙ take-take room i ws (omega (arith, p.0)) ∙ sym (take-take room (i + 1) ws (omega (arith, p.0)))
