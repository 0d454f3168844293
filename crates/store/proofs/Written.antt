-- The rows of a plan and of its deletions, one after the other.
use Rattle.std.proofs.Common.{◌≡◌, ℕ, suc, ◌+◌, ◌-◌, ◌<◌, ◌≤◌, cond, not, eqb, List, [], ◌∷◌, ◌++◌, map, length, get_or, take, drop, set, Some, None, filter, Option, sym, refl, ap, ◌∙◌, ◌⊎◌, ⊎_elim, arith}
use Rattle.std.specs.List.{slice_get}
use Rattle.std.proofs.Math.Seq.{drop-nil}
use Rattle.std.proofs.lemmas.List.{append_assoc, append-nil, set_at, drop_more, map-set, map_push, length-map, length_push, length-append, take_more, length-take-le, take_at, drop-drop, drop_at, get_or-map}
use Rattle.std.proofs.lemmas.List.Elements.{filter_more}
use Rattle.std.proofs.lemmas.Bool.{ne_eqb, eq-eqb}
use Rattle.std.proofs.lemmas.List.Sums.{count_by-le-length, length-filter}
use Rattle.site.specs.Site.{Site, node_rack}
use Rattle.site.specs.declared.Node.{Node}
use Rattle.blocks.specs.Blocks.{numbers, copies_of}
use Rattle.blocks.specs.declared.block.Block as code
use Rattle.store.specs.declared.types.Row.{Row}
use Rattle.store.specs.Stripes.{Block}
use Rattle.store.specs.Answers.{Line, shown, lines, data_rows, parity_rows, plan_rows, plan_row, gone_rows, gone_of}
use Rattle.store.specs.Table.{held_of}

-- one more row of a plan
parity-push : (s : Site) (j : ℕ) (p : List ℕ) (v : ℕ) → parity_rows s j (p ++ v ∷ []) ≡ parity_rows s j p ++ (1, j + length p, v, node_rack s v) ∷ []
parity-push s j [] v = let e : j ≡ j + 0 = omega arith in ap (λ i. (1, i, v, node_rack s v) ∷ []) e
parity-push s j (u ∷ p) v =
    let e : suc j + length p ≡ j + suc (length p) = omega arith in
    ap (λ l. (1, j, u, node_rack s u) ∷ l) (parity-push s (suc j) p v ∙ ap (λ i. parity_rows s (suc j) p ++ (1, i, v, node_rack s v) ∷ []) e)

data-none : (s : Site) (bs : List Block) → data_rows s bs [] ≡ []
data-none s [] = refl
data-none s (b ∷ bs) = refl

pub plan-push : (s : Site) (bs : List Block) (p : List ℕ) (v : ℕ) → plan_rows s bs (p ++ v ∷ []) ≡ plan_rows s bs p ++ plan_row s bs (length p) v ∷ []
plan-push s [] p v =
    let e : 1 + length p ≡ length p - 0 + 1 = omega arith in
    parity-push s 1 p v ∙ ap (λ i. parity_rows s 1 p ++ (1, i, v, node_rack s v) ∷ []) e
plan-push s (b ∷ bs) [] v = ap (λ l. (0, b.number, v, node_rack s v) ∷ l) (ap (λ l. l ++ parity_rows s 1 (drop (length bs) [])) (data-none s bs) ∙ ap (parity_rows s 1) (drop-nil (length bs)))
plan-push s (b ∷ bs) (u ∷ p) v =
    ap (λ l. (0, b.number, u, node_rack s u) ∷ l) (plan-push s bs p v ∙ ap (λ x. plan_rows s bs p ++ x ∷ []) (row_next (slice_get bs (length p))))
  where
    row_next : (o : Option Block) → elim o as (λ _. Line) [ Some a ↦ (0, a.number, v, node_rack s v) | None ↦ (1, length p - length bs + 1, v, node_rack s v) ] ≡ elim o as (λ _. Line) [ Some a ↦ (0, a.number, v, node_rack s v) | None ↦ (1, suc (length p) - suc (length bs) + 1, v, node_rack s v) ]
    row_next (Some a) = refl
    row_next None = let e : length p - length bs + 1 ≡ suc (length p) - suc (length bs) + 1 = omega arith in ap (λ i. (1, i, v, node_rack s v)) e

parity-length : (s : Site) (j : ℕ) (p : List ℕ) → length (parity_rows s j p) ≡ length p
parity-length s j [] = refl
parity-length s j (v ∷ p) = ap suc (parity-length s (suc j) p)

-- as many rows as nodes
pub plan-length : (s : Site) (bs : List Block) (p : List ℕ) → length (plan_rows s bs p) ≡ length p
plan-length s [] p = parity-length s 1 p
plan-length s (b ∷ bs) [] = ap length (ap (λ l. l ++ parity_rows s 1 (drop (suc (length bs)) [])) (data-none s (b ∷ bs)))
plan-length s (b ∷ bs) (v ∷ p) = ap suc (plan-length s bs p)

-- writing one more line behind those written
pub put-more : (P : List Line) (old : List Line) (i : ℕ) (x : Line) → length P ≡ i → i < length old → set (P ++ drop i old) i x ≡ (P ++ x ∷ []) ++ drop (i + 1) old
put-more P old i x e h = ap (λ l. set (P ++ l) i x) (drop_more old i x h) ∙ set_at P (get_or old i x) (drop (i + 1) old) x i e ∙ sym (append_assoc P (x ∷ []) (drop (i + 1) old))

pub lines-put : (rows : List Row) (i : ℕ) (row : Row) → lines (set rows i row) ≡ set (lines rows) i (shown row)
lines-put rows i row = map-set shown rows i row

-- the node at a place of a plan
pub node_at : (vs : List Node) (p : List ℕ) (i : ℕ) (d : Node) → numbers vs ≡ p → i < length p → (i < length vs) × (get_or p i 0 ≡ (get_or vs i d).0)
node_at vs p i d e h =
    let n : length p ≡ length vs = ap length (sym e) ∙ length-map vs (λ v. v.0) in
    let k : i < length vs = omega arith in
    (k, ap (λ l. get_or l i 0) (sym e) ∙ get_or-map (λ v. v.0) vs i d 0 k)

pub plan-none : (s : Site) (bs : List Block) (old : List Line) → old ≡ plan_rows s bs [] ++ drop 0 old
plan-none s [] old = refl
plan-none s (b ∷ bs) old = refl

-- one more row of a plan is written
pub plan-more : (s : Site) (bs : List Block) (p : List ℕ) (old rows : List Row) (i : ℕ) (row : Row) → i < length p → i < length old → shown row ≡ plan_row s bs i (get_or p i 0)
    → lines rows ≡ plan_rows s bs (take i p) ++ drop i (lines old) → lines (set rows i row) ≡ plan_rows s bs (take (i + 1) p) ++ drop (i + 1) (lines old)
plan-more s bs p old rows i row h k e f =
    let n : length (take i p) ≡ i = length-take-le i p (omega arith) in
    let w = plan_rows s bs (take i p) in
    lines-put rows i row ∙ (ap (λ l. set l i (shown row)) f ∙ (put-more w (lines old) i (shown row) (plan-length s bs (take i p) ∙ n) (omega (arith, length-map old shown))
    ∙ ap (λ l. l ++ drop (i + 1) (lines old)) (ap (λ x. w ++ x ∷ []) (e ∙ ap (λ j. plan_row s bs j (get_or p i 0)) (sym n)) ∙ (sym (plan-push s bs (take i p) (get_or p i 0)) ∙ ap (plan_rows s bs) (sym (take_more p i 0 h))))))

pub copies_length : (b : code.Block) → length (copies_of b) ≡ length b.nodes
copies_length b = length-map b.nodes (λ v. v.0)

pub slice-long : (vs : List Node) (p : List ℕ) → numbers vs ≡ p → length vs ≡ length p
slice-long vs p e = sym (length-map vs (λ v. v.0)) ∙ ap length e

-- the deletions among a block's first j copies
abbrev pub gone_to : Site → ℕ → List ℕ → ℕ → ℕ → List Line
gone_to s number copies v j = map (λ w. (2, number, w, node_rack s w)) (filter (λ w. not (eqb w v)) (take j copies))

module _ (s : Site) (number : ℕ) (copies : List ℕ) (v j : ℕ) (h : j < length copies) where
  pub gone-more-yes : (get_or copies j 0 ≡ v → ⊥) → gone_to s number copies v (j + 1) ≡ gone_to s number copies v j ++ (2, number, get_or copies j 0, node_rack s (get_or copies j 0)) ∷ []
  gone-more-yes ne =
      let w = get_or copies j 0 in
      let t = ne_eqb w v ne in
      let k : filter (λ w. not (eqb w v)) (take (j + 1) copies) ≡ filter (λ w. not (eqb w v)) (take j copies) ++ w ∷ [] = filter_more (λ w. not (eqb w v)) copies j 0 h ∙ ap (λ b. filter (λ w. not (eqb w v)) (take j copies) ++ cond (not b) (w ∷ []) []) t in
      ap (map (λ w. (2, number, w, node_rack s w))) k ∙ map_push (λ w. (2, number, w, node_rack s w)) (filter (λ w. not (eqb w v)) (take j copies)) w

  pub gone-more-no : get_or copies j 0 ≡ v → gone_to s number copies v (j + 1) ≡ gone_to s number copies v j
  gone-more-no e =
      let w = get_or copies j 0 in
      let t = eq-eqb w v e in
      let k : filter (λ w. not (eqb w v)) (take (j + 1) copies) ≡ filter (λ w. not (eqb w v)) (take j copies) ++ [] = filter_more (λ w. not (eqb w v)) copies j 0 h ∙ ap (λ b. filter (λ w. not (eqb w v)) (take j copies) ++ cond (not b) (w ∷ []) []) t in
      ap (map (λ w. (2, number, w, node_rack s w))) (k ∙ append-nil _)

-- one more line between what stood before and what is left
pub put-after : (A G old : List Line) (at end : ℕ) (x : Line) → length A ≡ at → end ≡ at + length G → end < length old → set (A ++ (G ++ drop end old)) end x ≡ A ++ ((G ++ x ∷ []) ++ drop (end + 1) old)
put-after A G old at end x a e h =
    ap (λ l. set l end x) (sym (append_assoc A G (drop end old)))
    ∙ (put-more (A ++ G) old end x (length-append A G ∙ omega arith) h
    ∙ (ap (λ l. l ++ drop (end + 1) old) (append_assoc A G (x ∷ [])) ∙ append_assoc A (G ++ x ∷ []) (drop (end + 1) old)))

-- the deletions of one more block behind those written
pub gone-more : (P G old rows : List Line) (at end : ℕ) → length P ≡ at → end ≡ at + length G → rows ≡ P ++ drop at old → take at rows ++ (G ++ drop end rows) ≡ (P ++ G) ++ drop end old
gone-more P G old rows at end a e f =
    let front : take at rows ≡ P = ap (take at) f ∙ take_at P (drop at old) at a in
    let back : drop end rows ≡ drop end old =
    ap (λ k. drop k rows) e ∙ (sym (drop-drop (length G) at rows) ∙ (ap (drop (length G)) (ap (drop at) f ∙ drop_at P (drop at old) at a) ∙ (drop-drop (length G) at old ∙ ap (λ k. drop k old) (sym e)))) in
    ap (λ l. l ++ (G ++ drop end rows)) front ∙ (ap (λ l. P ++ (G ++ l)) back ∙ sym (append_assoc P G (drop end old)))

-- one more copy is looked at, and written unless it is the one that stays
module _ (s : Site) (number : ℕ) (copies : List ℕ) (v j : ℕ) (old rows : List Row) (at end : ℕ) (h : j < length copies)
    (e : end ≡ at + length (gone_to s number copies v j)) (f : end ≤ length old → lines rows ≡ take at (lines old) ++ (gone_to s number copies v j ++ drop end (lines old))) where
  pub gone-put : (row : Row) (x : ℕ) → get_or copies j 0 ≡ x → (x ≡ v → ⊥) → shown row ≡ (2, number, x, node_rack s x)
      → (end + 1 ≡ at + length (gone_to s number copies v (j + 1))) × (end + 1 ≤ length old → lines (set rows end row) ≡ take at (lines old) ++ (gone_to s number copies v (j + 1) ++ drop (end + 1) (lines old)))
  gone-put row x is ne row_is =
      let done = gone_to s number copies v j in
      let same : gone_to s number copies v (j + 1) ≡ done ++ shown row ∷ [] = gone-more-yes s number copies v j h (λ q. ne (sym is ∙ q)) ∙ ap (λ y. done ++ (2, number, y, node_rack s y) ∷ []) is ∙ ap (λ y. done ++ y ∷ []) (sym row_is) in (
        omega (arith, e, ap length same, length_push done (shown row)),
        λ k. lines-put rows end row ∙ (ap (λ l. set l end (shown row)) (f (omega arith)) ∙ (put-after (take at (lines old)) done (lines old) at end (shown row) (length-take-le at (lines old) (omega (arith, e, length-map old shown))) e (omega (arith, length-map old shown)) ∙ ap (λ l. take at (lines old) ++ (l ++ drop (end + 1) (lines old))) (sym same))),
      )

  pub gone-stay : get_or copies j 0 ≡ v
      → (end ≡ at + length (gone_to s number copies v (j + 1))) × (end ≤ length old → lines rows ≡ take at (lines old) ++ (gone_to s number copies v (j + 1) ++ drop end (lines old)))
  gone-stay is =
      let same = gone-more-no s number copies v j h is in
      (e ∙ ap (λ l. at + length l) (sym same), λ k. f k ∙ ap (λ l. take at (lines old) ++ (l ++ drop end (lines old))) (sym same))

pub gone-length : (s : Site) (b : code.Block) (v : ℕ) → length (gone_of s (held_of b) v) ≤ 8
gone-length s b v =
    let line : ℕ → Line = λ w. (2, b.number, w, node_rack s w) in
    omega (arith, length-map (filter (λ w. not (eqb w v)) (copies_of b)) line, length-filter (λ w. not (eqb w v)) (copies_of b), count_by-le-length (λ w. not (eqb w v)) (copies_of b), copies_length b, b.few)

-- the deletions of one more block, and the end
pub gone-one : (s : Site) (xs ys : List code.Block) (vs ws : List Node) (b : code.Block) (v : Node) (done all : List Line) → xs ≡ b ∷ ys → vs ≡ v ∷ ws → done ++ gone_rows s (map held_of xs) (numbers vs) ≡ all
    → (done ++ gone_of s (held_of b) v.0) ++ gone_rows s (map held_of ys) (numbers ws) ≡ all
gone-one s xs ys vs ws b v done all e f h =
    append_assoc done (gone_of s (held_of b) v.0) (gone_rows s (map held_of ys) (numbers ws))
    ∙ (ap (λ l. done ++ gone_rows s (map held_of l) (numbers (v ∷ ws))) (sym e) ∙ (ap (λ l. done ++ gone_rows s (map held_of xs) (numbers l)) (sym f) ∙ h))

pub gone-over : (s : Site) (xs : List code.Block) (vs : List Node) (done all : List Line) → (length xs ≡ 0) ⊎ (length vs ≡ 0) → done ++ gone_rows s (map held_of xs) (numbers vs) ≡ all → done ≡ all
gone-over s [] vs done all e h = sym (append-nil done) ∙ h
gone-over s (x ∷ xs) [] done all e h = sym (append-nil done) ∙ h
gone-over s (x ∷ xs) (v ∷ vs) done all e h = ⊎_elim (λ z. absurd (omega arith)) (λ z. absurd (omega arith)) e
