use Rattle.std.proofs.Common.{◌≡◌, ◌≤◌, length}
use Rattle.sheet.proofs.Counts.{up_to}
use Rattle.sheet.proofs.positions.put_positions.Given as goal

abbrev pub invariant-loop-i : goal.invariant-loop-i
invariant-loop-i l = (l.places ≡ up_to l.set l.i) × (length l.places ≤ l.i)
