use Rattle.std.proofs.Common.{◌∷◌, take, decimal}
use Rattle.std.specs.List.{flat_map}
use Rattle.text.specs.Texts.{Wrote}
use Rattle.text.proofs.writer.Writer.put_further.Given as goal

abbrev pub invariant-loop-n : goal.invariant-loop-n
invariant-loop-n l = Wrote l.initial.self l.self (flat_map (λ n. 32 ∷ decimal n) (take l.n-index l.numbers))
