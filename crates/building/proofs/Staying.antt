-- The walk goes on while the owner of the places changes, and the places stay the same.
use Rattle.std.proofs.Common.{◌≡◌, ℕ, suc, List, [], ◌∷◌, length, get_or, sym, ap, ◌∙◌, subst}
use Rattle.pages.specs.Pages.{runs}
use Rattle.marking.specs.Marks.{Marked}
use Rattle.diagram.specs.declared.Node.{Node}
use Rattle.diagram.specs.declared.Link.{Link}
use Rattle.places.specs.Places.{Standing, Paging, in_cell, SamePlaces, SaysTheSameUntil}
use Rattle.table.specs.Reduced.{BranchesBuilt}
use Rattle.building.specs.declared.Frame.{Frame}
use Rattle.building.specs.Walk.{Aim, Walkable, Awaited, Opening, Handing}

module _ {Place : Type 0} (stands : Standing Place) (says : Paging Place) (stands' : Standing Place) (says' : Paging Place) (same : SamePlaces stands says stands' says') where
  -- what a walk relies on, by going back to the places before
  pub walkable_stays : (k : ℕ) (shape : List ℕ) → Walkable stands says k shape → Walkable stands' says' k shape
  walkable_stays k shape w =
      record {
        attributes_have_cells = w.attributes_have_cells;
        attributes_are_narrow = w.attributes_are_narrow;
        places_keep =
            λ nodes marks nodes' marks' j p sound grown st.
            let kept = w.places_keep nodes marks nodes' marks' j p sound grown (same.stood_before k shape nodes marks j p st) in (
              same.still_stand k shape nodes' marks' j p kept.0,
              same.say_the_same shape nodes' j p ∙ kept.1 ∙ sym (same.say_the_same shape nodes j p),
            );
        places_fill_the_grid =
            λ nodes marks j p st. ap length (same.say_the_same shape nodes j p) ∙ w.places_fill_the_grid nodes marks j p (same.stood_before k shape nodes marks j p st);
      }

  -- saying the same until a level
  pub until_stays : (k : ℕ) (shape : List ℕ) (nodes : List Node) (marks : List ℕ) (j : ℕ) (p : Place) (i : ℕ) → SaysTheSameUntil stands says k shape nodes marks j p i → SaysTheSameUntil stands' says' k shape nodes marks j p i
  until_stays k shape nodes marks j p i u =
      record {
        stands_at_each = λ m a b. same.still_stand k shape nodes marks m p (u.stands_at_each m a b);
        same_in_each_cell =
            λ m a b. same.say_the_same shape nodes m p ∙ u.same_in_each_cell m a b ∙ ap (λ v. runs (get_or shape m 0) (λ c. v)) (sym (same.say_the_same shape nodes (suc m) p));
      }

  module _ (shape : List ℕ) (aim : Aim) where
    -- what the frames wait for, frame by frame
    awaited_stays : (fs : List (Frame Place)) (nodes : List Node) (marks : List ℕ) (j : ℕ) (q : List ℕ) → Awaited stands says shape aim fs nodes marks j q → Awaited stands' says' shape aim fs nodes marks j q
    awaited_stays [] nodes marks j q e = e
    awaited_stays (f ∷ fs) nodes marks j q e =
        let w = e.0 in
        let ns : List Node = w.asked_nodes in
        let ms : List ℕ = w.asked_marks in
        let s : says shape ns f.level f.place ≡ says' shape ns f.level f.place = sym (same.say_the_same shape ns f.level f.place) in (
          record {
            asked_nodes = ns;
            asked_marks = ms;
            asked_level = w.asked_level;
            asked_not_later = w.asked_not_later;
            asked_of_sound_memory = w.asked_of_sound_memory;
            at_an_attribute = w.at_an_attribute;
            at_a_cell = w.at_a_cell;
            same_until_its_level = until_stays aim.codes shape ns ms w.asked_level f.place f.level w.same_until_its_level;
            branches_are_built =
                subst (λ p. BranchesBuilt aim.codes shape ns (Marked ms) nodes (Marked marks) f.level (in_cell shape f.level p) f.cell f.branches) s w.branches_are_built;
            waits_one_level_on = w.waits_one_level_on;
            waits_for_its_cell = w.waits_for_its_cell ∙ ap (λ p. in_cell shape f.level p f.cell) s;
          },
          subst (λ p. Awaited stands' says' shape aim fs ns ms w.asked_level p) (sym (same.say_the_same shape ns w.asked_level f.place))
              (awaited_stays fs ns ms w.asked_level (says shape ns w.asked_level f.place) e.1),
        )

    module _ (nodes : List Node) (marks : List ℕ) (fs : List (Frame Place)) where
      pub opening_stays : (j : ℕ) (p : Place) → Opening stands says shape aim nodes marks fs j p → Opening stands' says' shape aim nodes marks fs j p
      opening_stays j p o =
          record {
            walkable = walkable_stays aim.codes shape o.walkable;
            level_of_the_shape = o.level_of_the_shape;
            live_is_sound = o.live_is_sound;
            place_stands = same.still_stand aim.codes shape nodes marks j p o.place_stands;
            page_is_awaited =
                subst (Awaited stands' says' shape aim fs nodes marks j) (sym (same.say_the_same shape nodes j p)) (awaited_stays fs nodes marks j (says shape nodes j p) o.page_is_awaited);
          }

      pub handing_stays : (l : Link) → Handing stands says shape aim nodes marks fs l → Handing stands' says' shape aim nodes marks fs l
      handing_stays l h =
          record {
            walkable = walkable_stays aim.codes shape h.walkable;
            asked_nodes = h.asked_nodes;
            asked_marks = h.asked_marks;
            asked_level = h.asked_level;
            asked_page = h.asked_page;
            page_is_awaited = awaited_stays fs h.asked_nodes h.asked_marks h.asked_level h.asked_page h.page_is_awaited;
            page_is_built = h.page_is_built;
          }
