use Rattle.std.proofs.Common.{◌≡◌}
use Rattle.reaching.specs.Roots.{marked_by_all, first_links}
use Rattle.reaching.proofs.mark_branches.Given as goal

abbrev pub invariant-loop-cell : goal.invariant-loop-cell
invariant-loop-cell l =
    (l.marking.bytes.ghost_name ≡ l.initial.marking.bytes.ghost_name)
    × (l.marking.bytes.now ≡ marked_by_all (first_links l.node l.cell) l.initial.marking.bytes.now)
