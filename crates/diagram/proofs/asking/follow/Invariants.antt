use Rattle.std.proofs.Common.{◌≡◌, drop}
use Rattle.diagram.specs.Diagram.{follow}
use Rattle.diagram.proofs.asking.follow.Given as goal

-- the cells that are left lead on to what all lead to from the root
abbrev pub invariant-loop-level : goal.invariant-loop-level
invariant-loop-level l = follow l.nodes l.level (drop l.level l.cells) l.link ≡ follow l.nodes 0 l.cells l.initial.link
