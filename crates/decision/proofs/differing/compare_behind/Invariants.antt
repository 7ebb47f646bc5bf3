use Rattle.std.proofs.Common.{◌≡◌, ◌+◌, [], ◌++◌, map, get_or, drop, vec_items}
use Rattle.fields.specs.Parts.{list_now}
use Rattle.vocabulary.specs.Record.{attributes_of}
use Rattle.decision.specs.Differing.{against}
use Rattle.decision.specs.Shown.{difference_shown}
use Rattle.decision.proofs.differing.compare_behind.Given as goal

abbrev pub invariant-loop-j : goal.invariant-loop-j
invariant-loop-j l =
    map difference_shown (vec_items l.differences) ++ against (attributes_of l.vocabulary) l.i (get_or (map list_now l.sheets) l.i []) l.j (drop l.j (map list_now l.sheets))
    ≡ map difference_shown (vec_items l.initial.differences) ++ against (attributes_of l.vocabulary) l.i (get_or (map list_now l.sheets) l.i []) (l.i + 1) (drop (l.i + 1) (map list_now l.sheets))
