use Rattle.std.proofs.Common.{◌≡◌, drop}
use Rattle.reaching.specs.Roots.{roots_in, marked_by_all}
use Rattle.reaching.proofs.mark_roots.Given as goal

abbrev pub invariant-loop-root : goal.invariant-loop-root
invariant-loop-root l =
    (l.marking.bytes.ghost_name ≡ l.initial.marking.bytes.ghost_name)
    × (marked_by_all (roots_in (drop l.root-index l.roots)) l.marking.bytes.now ≡ marked_by_all (roots_in l.roots) l.initial.marking.bytes.now)
