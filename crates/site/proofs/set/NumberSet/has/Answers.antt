use Rattle.std.proofs.Common.{sym, ◌∙◌, arith}
use Rattle.std.proofs.lemmas.Bool.{le-ltb}
use Rattle.site.proofs.Words.{no-bit}
use Rattle.site.proofs.set.NumberSet.has.Goals as goal

pub returns-else-i-lt32 : goal.returns-else-i-lt32
returns-else-i-lt32 c =
    le-ltb c.args.i 32 c.if-i-lt32.false ∙ sym (no-bit c.args.self c.args.i (omega (arith, c.self.invariant, c.self.view_is)) c.if-i-lt32.false)
