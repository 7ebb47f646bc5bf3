use Rattle.std.proofs.Common.{◌≡◌, ◌+◌, ◌<◌, ◌∷◌, drop, None, sym, refl, ap, ◌∙◌, subst, arith, rules}
use Rattle.std.specs.Prelude.{MatchResult}
use Rattle.building.specs.declared.Turn.TheVariants.{Open, End}
use Rattle.building.specs.Work.{frames, waiting_work, work_left}
use Rattle.building.specs.Walk.{Opening, Underway}
use Rattle.building.proofs.Measuring.{two_turns, later_is_less, open_falls}
use Rattle.building.proofs.Stacking.{frames_onto, frames-length}
use Rattle.building.proofs.Walking.{frames-within_levels, after_push}
use Rattle.building.proofs.Looking.{handed, entered}
use Rattle.building.proofs.down.Goals as goal

pub returns-in-Settled : goal.returns-in-Settled
returns-in-Settled g c =
    record {
      same_slots = refl;
      as_many_slots = refl;
      keeps_what_was_kept = c.look.ensures.keeps_what_was_kept;
      less_is_left = omega (arith, two_turns (drop c.args.level c.args.counts.now));
      walk_goes_on =
          handed (g.P.Places.stands c.args.places.now) (g.P.Places.says c.args.places.now) (g.P.Places.stands c.look.new.self) (g.P.Places.says c.look.new.self)
          c.look.ensures.same_places c.args.counts.now c.args.nodes.now (frames c.args.stack.now.slots.now c.args.stack.now.len) c.args.level c.args.place
          c.in-Settled.link c.in-Settled.ensures.seen_as_it_is;
    }

pub returns-in-Branches-clause-less_is_left : goal.returns-in-Branches-clause-less_is_left
returns-in-Branches-clause-less_is_left g c =
    let seen = c.in-Branches.ensures.seen_as_it_is in
    let fs = frames c.args.stack.now.slots.now c.args.stack.now.len in
    let is : MatchResult c.push.result (λ _. c.map_or.result ≡ Open (c.in-Branches.at + 1) c.child-first.result) (λ _. c.map_or.result ≡ End None) = search rules in
    after_push (λ t. work_left c.args.counts.now (frames c.push.new.self.slots.now c.push.new.self.len) t < work_left c.args.counts.now fs (Open c.args.level c.args.place)) c.push.result c.map_or.result
    (Open (c.in-Branches.at + 1) c.child-first.result) (End None) c.push.ensures.pushed_or_full is
    (λ pushed.
    let a = ap (waiting_work c.args.counts.now) (frames_onto _ _ _ pushed.x_is_newest ∙ ap (λ f. f ∷ fs) c.new.ensures) in
    omega (arith, a, open_falls c.args.counts.now c.in-Branches.at seen.1 (waiting_work c.args.counts.now fs), later_is_less c.args.counts.now c.args.level c.in-Branches.at seen.0))
    (λ refused. omega (arith, two_turns (drop c.args.level c.args.counts.now)))

pub returns-in-Branches-clause-walk_goes_on : goal.returns-in-Branches-clause-walk_goes_on
returns-in-Branches-clause-walk_goes_on g c =
    λ aim marks o.
    let seen = c.in-Branches.ensures.seen_as_it_is in
    let fs = frames c.args.stack.now.slots.now c.args.stack.now.len in
    let is : MatchResult c.push.result (λ _. c.map_or.result ≡ Open (c.in-Branches.at + 1) c.child-first.result) (λ _. c.map_or.result ≡ End None) = search rules in
    after_push (Underway (g.P.Places.stands c.look.new.self) (g.P.Places.says c.look.new.self) c.args.counts.now aim c.args.nodes.now marks (frames c.push.new.self.slots.now c.push.new.self.len)) c.push.result c.map_or.result
    (Open (c.in-Branches.at + 1) c.child-first.result) (End None) c.push.ensures.pushed_or_full is
    (λ pushed.
    subst (λ fs'. Opening (g.P.Places.stands c.look.new.self) (g.P.Places.says c.look.new.self) c.args.counts.now aim c.args.nodes.now marks fs' (c.in-Branches.at + 1) c.child-first.result) (sym (frames_onto _ _ _ pushed.x_is_newest ∙ ap (λ f. f ∷ fs) c.new.ensures))
    (entered (g.P.Places.stands c.args.places.now) (g.P.Places.says c.args.places.now) (g.P.Places.stands c.look.new.self) (g.P.Places.says c.look.new.self)
    c.look.ensures.same_places c.args.counts.now c.args.nodes.now fs c.args.level c.args.place c.in-Branches.at seen c.child-first.result c.child-first.ensures.leads_to_the_cell aim marks o))
    (λ refused.
    let d =
    frames-within_levels (g.P.Places.stands c.args.places.now) (g.P.Places.says c.args.places.now) c.args.counts.now aim fs c.args.nodes.now marks c.args.level _
    o.page_is_awaited
    in
    let n = frames-length c.args.stack.now.slots.now c.args.stack.now.len c.args.stack.now.fits in
    absurd (omega (arith, d, n, refused.was_full, c.requires.one_slot_an_attribute)))
