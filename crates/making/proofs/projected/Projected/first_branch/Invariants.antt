use Rattle.std.proofs.Common.{◌+◌}
use Rattle.making.specs.Projections.{PassedOn}
use Rattle.making.proofs.projected.Projected.first_branch.Given as goal

abbrev pub invariant-loop-further : goal.invariant-loop-further
invariant-loop-further l = PassedOn l.self.masks.now l.level.counts.now l.level.nodes.now l.level.number (l.first + l.further) l.link
