use Rattle.std.proofs.Common.{◌≡◌, ℕ, ◌<◌}
use Rattle.diagram.specs.Diagram.{link}
use Rattle.table.proofs.alike.Given as goal

abbrev pub invariant-loop-c : goal.invariant-loop-c
invariant-loop-c l = (l.a.level ≡ l.b.level) × ((c : ℕ) → c < l.c → link l.a c ≡ link l.b c)
