use Rattle.std.proofs.Common.{◌≡◌, ◌-◌, ◌≤◌, length, min, take, drop, replicate, sym, ap, ap₂, ◌∙◌, arith}
use Rattle.std.proofs.Math.Nat.{min-le_right}
use Rattle.std.proofs.lemmas.List.{length-replicate, drop-replicate, take-replicate}
use Rattle.fixed.proofs.list.FixedList.blanks.Goals as goal

pub invariant_of-result : goal.invariant_of-result
invariant_of-result g c = (
  omega (arith, c.min.ensures, min-le_right c.args.len g.row.N),
  length-replicate g.row.N c.blank.result,
  drop-replicate c.min.result g.row.N c.blank.result ∙ ap (replicate (g.row.N - c.min.result)) c.blank.ensures,
)

pub returns : goal.returns
returns g c =
    take-replicate c.min.result g.row.N c.blank.result (omega (arith, c.min.ensures, min-le_right c.args.len g.row.N)) ∙ ap₂ (λ n z. replicate n z) c.min.ensures c.blank.ensures
