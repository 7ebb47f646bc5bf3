use Rattle.std.proofs.Common.{◌≡◌, ◌+◌, ◌<◌, ◌∷◌, None, length, get_or, sym, refl, ap, subst, arith, rules}
use Rattle.std.specs.Prelude.{MatchOption, MatchResult}
use Rattle.table.proofs.Storing.{unwritten}
use Rattle.building.specs.declared.Turn.TheVariants.{Open, Hand, End}
use Rattle.building.specs.Work.{frames, waiting_work, work_left}
use Rattle.building.specs.Walk.{Opening, Handing, Underway}
use Rattle.building.proofs.Measuring.{cell_falls}
use Rattle.building.proofs.Stacking.{frames_onto, frames_popped}
use Rattle.building.proofs.Walking.{at_a_cell, goes_on, handed_or_ended, after_push}
use Rattle.building.proofs.up.Goals as goal

pub returns-then-frame-n : goal.returns-then-frame-n
returns-then-frame-n g c =
    let fs = frames c.pop.new.self.slots.now c.pop.new.self.len in
    let e : frames c.args.stack.now.slots.now c.args.stack.now.len ≡ c.in-Some.frame ∷ fs =
    frames_popped _ _ _ _ _ c.in-Some.ensures.popped_or_empty c.pop.ensures.no_slot_written
    in
    record {
      same_slots = c.pop.ensures.same_slots;
      as_many_slots = ap length c.pop.ensures.no_slot_written;
      same_bytes = refl;
      live_stays = unwritten _ _ _ _ refl refl;
      less_is_left = omega arith;
      walk_goes_on =
          λ aim h.
          let s =
          at_a_cell (g.P.Places.stands c.args.places.now) (g.P.Places.says c.args.places.now) c.args.counts.now aim c.args.nodes.now c.args.marking.now.bytes.now c.in-Some.frame fs c.args.link
          (subst (λ fs'. Handing (g.P.Places.stands c.args.places.now) (g.P.Places.says c.args.places.now) c.args.counts.now aim c.args.nodes.now c.args.marking.now.bytes.now fs' c.args.link) e h)
          in
          absurd (omega (arith, s, c.cells-n.ensures));
    }

pub returns-then-cell-n-clause-less_is_left : goal.returns-then-cell-n-clause-less_is_left
returns-then-cell-n-clause-less_is_left g c =
    let fs = frames c.pop.new.self.slots.now c.pop.new.self.len in
    let e : frames c.args.stack.now.slots.now c.args.stack.now.len ≡ c.in-Some.frame ∷ fs =
    frames_popped _ _ _ _ _ c.in-Some.ensures.popped_or_empty c.pop.ensures.no_slot_written
    in
    let more : c.in-Some.frame.cell + 1 < get_or c.args.counts.now c.in-Some.frame.level 0 = search rules in
    let is : MatchResult c.push.result (λ _. c.map_or.result ≡ Open (c.in-Some.frame.level + 1) c.child-place.result) (λ _. c.map_or.result ≡ End None) = search rules in
    let a = ap (waiting_work c.args.counts.now) e in
    after_push (λ t. work_left c.args.counts.now (frames c.push.new.self.slots.now c.push.new.self.len) t < work_left c.args.counts.now (frames c.args.stack.now.slots.now c.args.stack.now.len) (Hand c.args.link)) c.push.result c.map_or.result
    (Open (c.in-Some.frame.level + 1) c.child-place.result) (End None) c.push.ensures.pushed_or_full is
    (λ pushed.
    let f = cell_falls c.args.counts.now c.in-Some.frame.level c.in-Some.frame.cell more (waiting_work c.args.counts.now fs) in
    let b = ap (waiting_work c.args.counts.now) (frames_onto _ _ _ pushed.x_is_newest) in
    omega (arith, f, a, b))
    (λ refused. omega arith)

pub returns-then-cell-n-clause-walk_goes_on : goal.returns-then-cell-n-clause-walk_goes_on
returns-then-cell-n-clause-walk_goes_on g c =
    λ aim h.
    let fs = frames c.pop.new.self.slots.now c.pop.new.self.len in
    let e : frames c.args.stack.now.slots.now c.args.stack.now.len ≡ c.in-Some.frame ∷ fs =
    frames_popped _ _ _ _ _ c.in-Some.ensures.popped_or_empty c.pop.ensures.no_slot_written
    in
    let more : c.in-Some.frame.cell + 1 < get_or c.args.counts.now c.in-Some.frame.level 0 = search rules in
    let is : MatchResult c.push.result (λ _. c.map_or.result ≡ Open (c.in-Some.frame.level + 1) c.child-place.result) (λ _. c.map_or.result ≡ End None) = search rules in
    after_push (Underway (g.P.Places.stands c.args.places.now) (g.P.Places.says c.args.places.now) c.args.counts.now aim c.args.nodes.now c.args.marking.now.bytes.now (frames c.push.new.self.slots.now c.push.new.self.len)) c.push.result c.map_or.result
    (Open (c.in-Some.frame.level + 1) c.child-place.result) (End None) c.push.ensures.pushed_or_full is
    (λ pushed.
    subst (λ fs'. Opening (g.P.Places.stands c.args.places.now) (g.P.Places.says c.args.places.now) c.args.counts.now aim c.args.nodes.now c.args.marking.now.bytes.now fs' (c.in-Some.frame.level + 1) c.child-place.result) (sym (frames_onto _ _ _ pushed.x_is_newest))
    (goes_on (g.P.Places.stands c.args.places.now) (g.P.Places.says c.args.places.now) c.args.counts.now aim c.args.nodes.now c.args.marking.now.bytes.now c.in-Some.frame fs c.args.link
    (subst (λ fs'. Handing (g.P.Places.stands c.args.places.now) (g.P.Places.says c.args.places.now) c.args.counts.now aim c.args.nodes.now c.args.marking.now.bytes.now fs' c.args.link) e h)
    more c.child-place.result (c.child-place.ensures.leads_to_the_cell aim.codes c.args.marking.now.bytes.now)))
    (λ refused.
    let full = refused.was_full in
    let left = c.in-Some.ensures.popped_or_empty.all_others_are_older in
    let long = ap length c.pop.ensures.no_slot_written in
    absurd (omega (arith, full, left, long, c.args.stack.now.fits)))

pub returns-clause-walk_goes_on : goal.returns-clause-walk_goes_on
returns-clause-walk_goes_on g c =
    λ aim h.
    let fs = frames c.pop.new.self.slots.now c.pop.new.self.len in
    let e : frames c.args.stack.now.slots.now c.args.stack.now.len ≡ c.in-Some.frame ∷ fs =
    frames_popped _ _ _ _ _ c.in-Some.ensures.popped_or_empty c.pop.ensures.no_slot_written
    in
    let h' =
    subst (λ fs'. Handing (g.P.Places.stands c.args.places.now) (g.P.Places.says c.args.places.now) c.args.counts.now aim c.args.nodes.now c.args.marking.now.bytes.now fs' c.args.link) e h
    in
    let is : MatchOption c.reduce.result (c.map_or-2.result ≡ End None) (λ whole. c.map_or-2.result ≡ Hand whole) = search rules in
    handed_or_ended (g.P.Places.stands c.args.places.now) (g.P.Places.says c.args.places.now) c.args.counts.now aim c.args.nodes.now c.args.marking.now.bytes.now c.in-Some.frame fs c.args.link h'
    c.cells-n.result c.cells-n.ensures c.if-cell-n.false c.reduce.new.nodes c.reduce.new.marking.bytes.now c.reduce.result c.reduce.ensures.builds_the_page c.map_or-2.result is
