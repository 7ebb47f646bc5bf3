use Rattle.std.proofs.Common.{◌≡◌, ℕ, List, length}
use Rattle.diagram.specs.declared.Link.{Link}
use Rattle.reaching.specs.Roots.{SoundRoots}
use Rattle.reaching.specs.Swept.{ClosedBelow, StaysMarked}
use Rattle.reaching.proofs.close.Given as goal

abbrev pub invariant-loop-level : goal.invariant-loop-level
invariant-loop-level l =
    (l.marking.bytes.ghost_name ≡ l.initial.marking.bytes.ghost_name)
    × StaysMarked l.initial.marking.bytes.now l.marking.bytes.now
    × ((k : ℕ) (roots : List Link) → SoundRoots k l.counts l.nodes roots → length l.initial.marking.bytes.now ≡ length l.nodes
    → ClosedBelow l.counts l.nodes roots l.initial.marking.bytes.now 0 → ClosedBelow l.counts l.nodes roots l.marking.bytes.now l.level)
