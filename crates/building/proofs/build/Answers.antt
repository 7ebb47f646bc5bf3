use Rattle.std.proofs.Common.{◌≡◌, ℕ, List, [], sym, refl, ap, subst, zero-le}
use Rattle.building.specs.Work.{frames}
use Rattle.building.specs.Walk.{Aim, Awaited, Underway}
use Rattle.building.proofs.build.Goals as goal

-- with no frame on the stack the start is what is asked for, and so the end has its page
pub returns-in-End : goal.returns-in-End
returns-in-End g c =
    record {
      same_bytes = c.turns.invariant.2;
      live_stays = c.turns.invariant.3;
      keeps_what_was_kept = c.turns.invariant.4;
      builds_the_page =
          λ k filled sound keep fill stands.
          let page : List ℕ = g.P.Places.says c.args.places.now c.args.counts.now c.args.nodes.now 0 c.args.start in
          let aim : Aim = record { codes = k; first_nodes = c.args.nodes.now; first_marks = c.args.marking.now.bytes.now; whole_page = page } in
          let none : [] ≡ frames c.new-stack.result.slots.now c.new-stack.result.len =
          ap (λ (n : ℕ). frames c.new-stack.result.slots.now n) (sym c.new-stack.ensures.starts_empty)
          in
          subst
          (λ t. Underway (g.P.Places.stands c.turns.places) (g.P.Places.says c.turns.places) c.args.counts.now aim c.turns.nodes c.turns.marking.bytes.now (frames c.turns.stack.slots.now c.turns.stack.len) t)
          c.in-End.is
          (c.turns.invariant.5 aim
          (record {
            walkable = record { attributes_have_cells = filled; attributes_are_narrow = c.requires.narrow; places_keep = keep; places_fill_the_grid = fill };
            level_of_the_shape = zero-le;
            live_is_sound = sound;
            place_stands = stands;
            page_is_awaited =
                subst
                (λ fs. Awaited (g.P.Places.stands c.args.places.now) (g.P.Places.says c.args.places.now) c.args.counts.now aim fs c.args.nodes.now c.args.marking.now.bytes.now 0 page) none
                (record { at_the_first_level = refl; is_the_whole_page = refl; in_the_first_nodes = refl; with_the_first_marks = refl });
          }));
    }
