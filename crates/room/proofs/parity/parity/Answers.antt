use Rattle.std.proofs.Common.{◌≡◌, ℕ, ◌+◌, ◌-◌, ◌≤◌, min, Bool, true, false, cond, T, List, [], ◌∷◌, ◌++◌, length, sym, refl, ap, ◌∙◌, arith}
use Rattle.std.specs.List.{range_with_len}
use Rattle.std.proofs.lemmas.List.{length-map, map-id}
use Rattle.std.proofs.lemmas.Iterator.{YieldsList-from_range}
use Rattle.std.proofs.lemmas.Iterator.Consumers.{YieldsList-at, YieldsList-from_chain, YieldsList-so_far, YieldsList-end}
use Rattle.site.specs.Site.{Site}
use Rattle.site.specs.declared.Node.{Node}
use Rattle.choices.specs.Plan.{parity, round}
use Rattle.blocks.specs.Lists.{node_numbers}
use Rattle.room.specs.Plans.{after}
use Rattle.room.proofs.Visits.{after_none, after-after, after-front, after-few}
use Rattle.room.proofs.parity.parity.Goals as goal

ends : (a b : Bool) → T (cond (cond a true true) (cond b true true) false)
ends true true = tt
ends true false = tt
ends false true = tt
ends false false = tt

-- a visit of all nodes from v on gives the plan that was asked for
visited : (s : Site) (c left : ℕ) (plan nodes : List Node) (v n taken m : ℕ) → length (node_numbers plan) ≡ taken → nodes ≡ plan → n ≡ length s → m ≡ min left (24 - taken)
    → after s c (taken + m) (node_numbers nodes) (range_with_len v (n - v) ++ range_with_len 0 v)
    ≡ node_numbers plan ++ parity s c (min left (24 - length (node_numbers plan))) (node_numbers plan) (round s v)
visited s c left plan nodes v n taken m l same count least =
    let t = node_numbers plan in
    let rest : taken + m - length t ≡ min left (24 - length t) =
    let q : taken + m - length t ≡ m = omega (arith, l) in q ∙ least ∙ ap (λ k. min left (24 - k)) (sym l) in
    ap (λ p. after s c (taken + m) (node_numbers p) (range_with_len v (n - v) ++ range_with_len 0 v)) same
    ∙ ap (λ k. after s c (taken + m) t (range_with_len v (k - v) ++ range_with_len 0 v)) count
    ∙ ap (λ k. t ++ parity s c k t (round s v)) rest

pub loop-v-init : goal.loop-v-init
loop-v-init g c = (
  (λ _. tt, λ _. tt),
  ends c.into_iter-v-iterator.result.a_done c.into_iter-v-iterator.result.b_done,
  sym (after_none (g.M.SiteMap.meaning c.args.map.now) c.args.c _ (node_numbers c.loaded-filling.result.nodes)),
  c.loaded-filling.ensures.loads,
)

pub loop-v-preserved : goal.loop-v-preserved
loop-v-preserved g c =
    let s = g.M.SiteMap.meaning c.args.map.now in
    let most = c.len-taken.result + c.min.result in
    let i = c.loop-v.invariant in
    let p = c.in-Some.ensures.goes.on i.1 in (
      p.0,
      p.1,
      c.visit.ensures.0 ∙ ap (λ t. after s c.args.c most t (c.in-Some.v ∷ [])) i.2
          ∙ after-after s c.args.c most (node_numbers c.loaded-filling.result.nodes) c.loop-v.yielded (c.in-Some.v ∷ []),
      c.visit.ensures.1,
    )

-- where the plan is full, and where all nodes were visited
pub returns-then-len-most : goal.returns-then-len-most
returns-then-len-most g c =
    let s = g.M.SiteMap.meaning c.args.map.now in
    let most = c.len-taken.result + c.min.result in
    let a = after s c.args.c most in
    let t = node_numbers c.args.plan.now in
    let v = c.args.start.0 in
    let i = c.loop-v.invariant in
    let road = YieldsList-at c.into_iter-v-iterator.ensures.into_iter_gives
    (YieldsList-from_chain (YieldsList-from_range v c.nodes.result (c.nodes.result - v) c.chain-v-items.ensures.first refl)
    (YieldsList-from_range 0 v v c.chain-v-items.ensures.second (omega arith)) c.chain-v-items.ensures.first_done c.chain-v-items.ensures.second_done) in
    let front = sym (map-id c.loop-v.yielded) ∙ YieldsList-so_far road c.loop-v.yielded _ c.loop-v.yielded_by in
    let l : length t ≡ c.len-taken.result = length-map c.args.plan.now (λ v. v.0) ∙ sym c.len-taken.ensures.value in
    let full : most ≤ length (a (node_numbers c.loaded-filling.result.nodes) c.loop-v.yielded) =
    omega (arith, ap length i.2, length-map c.loop-v.filling.nodes (λ v. v.0), c.len.ensures.value, c.if-len-most.true) in
    let e = i.2 ∙ after-front s c.args.c most (node_numbers c.loaded-filling.result.nodes) c.loop-v.yielded _ front full
    ∙ visited s c.args.c c.args.left c.args.plan.now c.loaded-filling.result.nodes v c.nodes.result c.len-taken.result c.min.result l c.loaded-filling.ensures.plan c.nodes.ensures c.min.ensures in
    record { value = e; few = omega (arith, ap length e, after-few s c.args.c 24 c.args.left t (round s v) (omega (arith, l, c.len-taken.ensures.few))) }

pub returns-in-None : goal.returns-in-None
returns-in-None g c =
    let s = g.M.SiteMap.meaning c.args.map.now in
    let t = node_numbers c.args.plan.now in
    let v = c.args.start.0 in
    let i = c.loop-v.invariant in
    let road = YieldsList-at c.into_iter-v-iterator.ensures.into_iter_gives
    (YieldsList-from_chain (YieldsList-from_range v c.nodes.result (c.nodes.result - v) c.chain-v-items.ensures.first refl)
    (YieldsList-from_range 0 v v c.chain-v-items.ensures.second (omega arith)) c.chain-v-items.ensures.first_done c.chain-v-items.ensures.second_done) in
    let all : c.loop-v.yielded ≡ range_with_len v (c.nodes.result - v) ++ range_with_len 0 v =
    sym (map-id c.loop-v.yielded) ∙ (YieldsList-end road c.loop-v.yielded _ c.loop-v.yielded_by _ _ c.in-None.is c.next.ensures.steps).0 in
    let l : length t ≡ c.len-taken.result = length-map c.args.plan.now (λ v. v.0) ∙ sym c.len-taken.ensures.value in
    let e = i.2 ∙ ap (after s c.args.c (c.len-taken.result + c.min.result) (node_numbers c.loaded-filling.result.nodes)) all
    ∙ visited s c.args.c c.args.left c.args.plan.now c.loaded-filling.result.nodes v c.nodes.result c.len-taken.result c.min.result l c.loaded-filling.ensures.plan c.nodes.ensures c.min.ensures in
    record { value = e; few = omega (arith, ap length e, after-few s c.args.c 24 c.args.left t (round s v) (omega (arith, l, c.len-taken.ensures.few))) }
