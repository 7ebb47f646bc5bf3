use Rattle.std.proofs.Common.{◌≡◌, drop}
use Rattle.vocabulary.specs.Cells.{cell_from}
use Rattle.vocabulary.proofs.record.lookup.cell.Given as goal

abbrev pub invariant-loop-i : goal.invariant-loop-i
invariant-loop-i l = cell_from 0 l.cuts l.x ≡ cell_from l.i (drop l.i l.cuts) l.x
