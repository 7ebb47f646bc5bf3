-- The code's report in the words of the input; a decision is told by its code.
use Rattle.std.specs.Prelude.{ℕ, List, map, vec_items}
use Rattle.algebra.specs.PermitDeny.{code_of}
use Rattle.decision.specs.Differing as differing
use Rattle.decision.specs.Decided as decided
use Rattle.decision.specs.declared.Line.{Line}
use Rattle.decision.specs.declared.Difference.{Difference}
use Rattle.decision.specs.declared.Report.{Report}

-- the codes of a line's decisions
abbrev pub line_shown : Line → List ℕ
line_shown l = map code_of (vec_items l.decisions)

-- two sheets by their numbers, and at how many grid numbers they differ
abbrev pub difference_shown : Difference → differing.Difference
difference_shown d = record { first = d.first; second = d.second; numbers = d.numbers }

-- the lines and the differences, in order
abbrev pub report_shown : Report → decided.Report
report_shown r = record { lines = map line_shown (vec_items r.lines); differences = map difference_shown (vec_items r.differences) }
