use Rattle.std.proofs.Common.{length, ap, arith}
use Rattle.std.proofs.lemmas.List.{length-take}
use Rattle.text.proofs.lexer.Lexer.new.Goals as goal

pub invariant_of-result : goal.invariant_of-result
invariant_of-result c = record { short = omega (arith, c.unless_empty.ensures.len, ap length c.front.ensures, length-take 65536 c.args.line.bytes.now) }
