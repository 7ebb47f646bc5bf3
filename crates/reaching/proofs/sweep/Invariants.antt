use Rattle.std.proofs.Common.{◌≡◌, ℕ, List, length, get_or}
use Rattle.diagram.specs.declared.Link.{Link}
use Rattle.reaching.specs.Roots.{SoundRoots}
use Rattle.reaching.specs.Swept.{ClosedBelow, StaysMarked}
use Rattle.reaching.proofs.Sweeping.{SweptTo}
use Rattle.reaching.proofs.sweep.Given as goal

abbrev pub invariant-loop-number : goal.invariant-loop-number
invariant-loop-number l =
    (l.marking.bytes.ghost_name ≡ l.initial.marking.bytes.ghost_name)
    × StaysMarked l.initial.marking.bytes.now l.marking.bytes.now
    × ((k : ℕ) (shape : List ℕ) (roots : List Link) → SoundRoots k shape l.nodes roots → length l.initial.marking.bytes.now ≡ length l.nodes → l.cells ≡ get_or shape l.level 0
    → ClosedBelow shape l.nodes roots l.initial.marking.bytes.now l.level → SweptTo shape l.nodes roots l.level l.marking.bytes.now l.number)
