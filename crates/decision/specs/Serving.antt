-- What the code has served, in the words of the input.
use Rattle.std.specs.Prelude.{map, vec_items}
use Rattle.fields.specs.Parts.{list_now}
use Rattle.decision.specs.Decided as decided
use Rattle.decision.specs.declared.arrived.Arrived.{Arrived}
use Rattle.decision.specs.Shown.{line_shown}

-- the bytes of the sheets, and the lines
abbrev pub arrived_shown : Arrived → decided.Arrived
arrived_shown a = record { sheets = map list_now (vec_items a.sheets); lines = map line_shown (vec_items a.lines) }
