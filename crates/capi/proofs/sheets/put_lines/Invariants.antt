use Rattle.std.proofs.Common.{◌≡◌, ◌+◌, ◌*◌, ◌≤◌, [], length}
use Rattle.text.specs.Rows.{left_of}
use Rattle.sheet.specs.Going.{Part, Going}
use Rattle.capi.proofs.Lined.{Far}
use Rattle.capi.proofs.sheets.put_lines.Given as goal

abbrev pub invariant-loop-len : goal.invariant-loop-len
invariant-loop-len g l = record {
  room : length l.buffer ≡ 2048;
  low : l.bytes + 2048 * length (left_of l.run.lines) ≤ 134217728;
  map : l.run.store.map ≡ l.initial.run.store.map;
  far : (p : Part) → p.site ≡ g.M.SiteMap.meaning l.initial.run.store.map → Going p [] l.initial.run → Far p l.run l.initial.writer l.writer l.bytes;
}

abbrev pub decreases-loop-len : goal.decreases-loop-len
decreases-loop-len g l = length (left_of l.run.lines)
