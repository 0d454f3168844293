use Rattle.std.proofs.Common.{◌≡◌, ◌<◌, true, false, not, eqb, length, get_or, ap, ◌∙◌, rules, arith}
use Rattle.std.proofs.lemmas.Bool.{eqb-true, eqb-false, not-true, not-false}
use Rattle.site.specs.Site.{node_rack}
use Rattle.blocks.specs.Blocks.{copies_of}
use Rattle.store.proofs.Written.{gone-put, gone-stay, node_at, slice-long}
use Rattle.store.proofs.rows.write_gone_of.Goals as goal
use Rattle.store.proofs.rows.write_gone_of.Goals.{then-goes, else-goes}

pub loop-w-preserved : goal.loop-w-preserved
loop-w-preserved g c =
    let s = g.M.SiteMap.meaning c.args.map.now in
    let b = c.args.block.now in
    let vs = copies_of b in
    let v = c.args.stays.0 in
    let j = c.loop-w.w-index in
    let old = c.args.rows.now in
    let inv = c.loop-w.invariant in
    let h : j < length vs = omega (arith, c.loop-w-test.true, slice-long c.nodes-w-items.result.now vs c.nodes-w-items.ensures.value) in
    let at = node_at c.nodes-w-items.result.now vs j (record { 0 = 0 }) c.nodes-w-items.ensures.value h in
    elim c.if-goes.branch [
      | then-goes w ↦ (
          let here = (get_or c.nodes-w-items.result.now j (record { 0 = 0 })).0 in
          let test : not (eqb here v) ≡ true = search rules in
          let differ = eqb-false here v (not-true _ test) in
          let row_is = w.row_of.ensures ∙ ap (λ n. (2, n, (get_or c.nodes-w-items.result.now j (record { 0 = 0 })).0, node_rack s (get_or c.nodes-w-items.result.now j (record { 0 = 0 })).0)) w.number.ensures in
          let q = gone-put s b.number vs v j old c.loop-w.rows c.args.at c.loop-w.end h inv.0 inv.2 w.row_of.result _ at.1 differ row_is in
          rw (w.end-is, w.rows-is, w.put.ensures) (q.0, omega (arith, inv.1), q.1))
      | else-goes w ↦ (
          let here = (get_or c.nodes-w-items.result.now j (record { 0 = 0 })).0 in
          let test : not (eqb here v) ≡ false = search rules in
          let same = eqb-true here v (not-false _ test) in
          let q = gone-stay s b.number vs v j old c.loop-w.rows c.args.at c.loop-w.end h inv.0 inv.2 (at.1 ∙ same) in
          rw (w.end-is, w.rows-is) (q.0, omega (arith, inv.1), q.1))
    ]
