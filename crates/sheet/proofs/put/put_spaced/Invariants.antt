use Rattle.std.proofs.Common.{◌+◌, ◌≤◌, ◌∷◌, length, take}
use Rattle.std.specs.List.{flat_map, sum_by}
use Rattle.text.specs.Texts.{Wrote}
use Rattle.sheet.proofs.put.put_spaced.Given as goal

abbrev pub invariant-loop-value : goal.invariant-loop-value
invariant-loop-value g l = record {
  wrote : Wrote l.initial.writer l.writer (flat_map (λ v. 32 ∷ g.T.Put.text v) (take l.value-index l.more));
  short : length (flat_map (λ v. 32 ∷ g.T.Put.text v) (take l.value-index l.more)) ≤ sum_by (λ v. g.T.Put.most v + 1) (take l.value-index l.more);
}
