use Rattle.std.proofs.Common.{◌≡◌, ◌++◌, map, drop, vec_items}
use Rattle.fields.specs.Parts.{list_now}
use Rattle.vocabulary.specs.Record.{attributes_of}
use Rattle.decision.specs.Differing.{differences_from}
use Rattle.decision.specs.Shown.{difference_shown}
use Rattle.decision.proofs.differing.differences_of.Given as goal

abbrev pub invariant-loop-i : goal.invariant-loop-i
invariant-loop-i l =
    map difference_shown (vec_items l.differences) ++ differences_from (attributes_of l.vocabulary) l.i (drop l.i (map list_now l.sheets))
    ≡ differences_from (attributes_of l.vocabulary) 0 (map list_now l.sheets)
