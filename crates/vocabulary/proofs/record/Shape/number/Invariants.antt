use Rattle.std.proofs.Common.{◌≡◌, ◌+◌, ◌*◌, ◌<◌, ◌≤◌, drop}
use Rattle.vocabulary.specs.Grid.{grid}
use Rattle.vocabulary.proofs.Walked.{number_from}
use Rattle.vocabulary.proofs.record.Shape.number.Given as goal

abbrev pub invariant-loop-i : goal.invariant-loop-i
invariant-loop-i l =
    (number_from 0 l.counts l.cells ≡ number_from l.number (drop l.i l.counts) (drop l.i l.cells))
    × (0 < grid (drop l.i l.counts))
    × ((l.number + 1) * grid (drop l.i l.counts) ≤ 4096)
