use Rattle.std.proofs.Common.{◌≡◌, length}
use Rattle.table.specs.Made.{LiveStays}
use Rattle.building.specs.Work.{frames, work_left}
use Rattle.building.specs.Walk.{Aim, Underway}
use Rattle.building.proofs.build.Given as goal

abbrev pub invariant-turns : goal.invariant-turns
invariant-turns g l =
    (length l.stack.slots.now ≡ length l.initial.stack.slots.now) × (l.stack.slots.ghost_name ≡ l.initial.stack.slots.ghost_name) × (l.marking.bytes.ghost_name ≡ l.initial.marking.bytes.ghost_name)
    × LiveStays l.initial.nodes l.initial.marking.bytes.now l.nodes l.marking.bytes.now × ((first : g.row.P.Denot) → g.P.Places.kept first l.initial.places → g.P.Places.kept first l.places)
    × ((aim : Aim)
    → Underway (g.P.Places.stands l.initial.places) (g.P.Places.says l.initial.places) l.counts aim l.initial.nodes l.initial.marking.bytes.now (frames l.initial.stack.slots.now l.initial.stack.len) l.initial.turn
    → Underway (g.P.Places.stands l.places) (g.P.Places.says l.places) l.counts aim l.nodes l.marking.bytes.now (frames l.stack.slots.now l.stack.len) l.turn)

abbrev pub decreases-turns : goal.decreases-turns
decreases-turns g l = work_left l.counts (frames l.stack.slots.now l.stack.len) l.turn
