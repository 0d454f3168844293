use Rattle.std.proofs.Common.{◌≡◌, ℕ, ◌-◌, ◌<◌, ◌≤◌, min, List, ◌∷◌, ◌++◌, length, ap, ◌∙◌, inl, inr, le_refl, arith}
use native.Mathlib.Nat.{le-min, min-le_left}
use Rattle.site.specs.Site.{Site}
use Rattle.choices.specs.Choice.{Copies, choices}
use Rattle.choices.specs.Plan.{first_of, parity, round, planned}
use Rattle.choices.proofs.Head.{empty-or, first-choice}
use Rattle.blocks.specs.Lists.{lists_of}
use Rattle.placement.proofs.plan.plan.Goals as goal

-- a first choice has no more nodes than there are blocks
kept-few : (s : Site) (c : ℕ) (bs : List Copies) → length (first_of (choices s c bs)) ≤ length bs
kept-few s c bs =
    elim (empty-or (choices s c bs)) [
      | inl e ↦ rw e (omega arith)
      | inr m ↦
          let e : choices s c bs ≡ m.0 ∷ m.1 = m.2 in
          let h = first-choice s c bs (λ z. let b : ◌≡◌ {A = ℕ} 0 1 = cc in omega arith) in
          omega (arith, h.long)
    ]

-- the room of a plan suffices for the parity of up to k blocks
roomy : (s : Site) (n k c : ℕ) (bs : List Copies) (start : ℕ) (kept plan : List ℕ) → k < n → n ≤ 24 → length bs ≤ k → kept ≡ first_of (choices s c bs)
    → plan ≡ kept ++ parity s c (min (n - k) (24 - length kept)) kept (round s start) → plan ≡ planned s n k c bs start
roomy s n k c bs start kept plan more few l e f =
    let q : n - k ≤ 24 - length kept = omega (arith, kept-few s c bs, ap length e) in
    let r : min (n - k) (24 - length kept) ≡ n - k = omega (arith, min-le_left (n - k) (24 - length kept), le-min (le_refl (n - k)) q) in
    f ∙ ap (λ z. kept ++ parity s c z kept (round s start)) r ∙ ap (λ z. z ++ parity s c (n - k) z (round s start)) e

pub returns-clause-planned : goal.returns-clause-planned
returns-clause-planned g c = λ l.
    let q = c.args.code.now in
    roomy (g.M.SiteMap.meaning c.args.map.now) q.n q.k q.c (lists_of c.args.blocks.now) c.args.start.0 _ _ q.more q.few l
    c.first_choice-nodes.ensures.value c.parity.ensures.value

pub returns-clause-few : goal.returns-clause-few
returns-clause-few g c = c.parity.ensures.few
