use Rattle.std.proofs.Common.{ℕ, ◌<◌}
use Rattle.marking.specs.Marks.{Marked}
use Rattle.diagram.specs.Diagram.{node}
use Rattle.diagram.specs.Sound.{Alike}
use Rattle.table.proofs.find.Given as goal

abbrev pub invariant-loop-number : goal.invariant-loop-number
invariant-loop-number l = (s : ℕ) → s < l.number → Marked l.marking.bytes.now s → Alike (node l.nodes s) l.wanted → ⊥
