-- The steps of the walk, over places of any kind.
use Rattle.std.proofs.Common.{◌≡◌, ℕ, zero, suc, ◌+◌, ◌<◌, ◌≤◌, List, [], ◌∷◌, length, get_or, drop, set, replicate, Some, None, Option, sym, refl, ap, ◌∙◌, subst, add-one, arith, Result, Ok, Err}
use Rattle.std.specs.Prelude.{MatchOption, MatchResult}
use Rattle.vocabulary.specs.Grid.{grid}
use Rattle.pages.specs.Pages.{runs}
use Rattle.marking.specs.Marks.{Marked}
use Rattle.diagram.specs.declared.Node.{Node}
use Rattle.diagram.specs.declared.Link.{Link}
use Rattle.diagram.specs.declared.Link.TheVariants.{Decision}
use Rattle.diagram.specs.Sound.{Sound}
use Rattle.diagram.specs.Growing.{Grown}
use Rattle.places.specs.Places.{Standing, Paging, in_cell, LeadsTo, SettledBy, SaysTheSameUntil}
use Rattle.table.specs.Built.{Built}
use Rattle.table.specs.Reduced.{BranchesBuilt, Reducible}
use Rattle.table.proofs.Branching.{branch_more, branch-none}
use Rattle.building.specs.declared.Frame.{Frame}
use Rattle.building.specs.declared.Turn.{Turn}
use Rattle.building.specs.declared.Turn.TheVariants.{Hand, End}
use Rattle.building.specs.Walk.{fresh, Aim, Walkable, Waits, AskedFirst, Awaited, Opening, Handing, Underway}
use Rattle.building.proofs.Cutting.{cells_are_the_page, cell_fills}
use Rattle.building.proofs.Lowering.{lower_to}

-- memory that stays has grown by nothing
grown_self : (k : ℕ) (shape : List ℕ) (nodes : List Node) (marks : List ℕ) → Sound k shape nodes (Marked marks) → Grown k shape nodes (Marked marks) nodes (Marked marks)
grown_self k shape nodes marks s = record { memory_is_as_long = refl; still_sound = s; live_records_stay = λ r v. refl; live_stays_live = λ r v. v }

blanks : (n i : ℕ) → get_or (replicate n (Decision 0)) i (Decision 0) ≡ Decision 0
blanks zero i = refl
blanks (suc n) zero = refl
blanks (suc n) (suc i) = blanks n i

module _ {Place : Type 0} (stands : Standing Place) (says : Paging Place) (shape : List ℕ) (aim : Aim) where
  -- no frame waits: what was built is the whole page
  whole_built : (nodes : List Node) (marks : List ℕ) (j : ℕ) (q : List ℕ) → AskedFirst aim nodes marks j q → (nodes' : List Node) (marks' : List ℕ) (r : Option Link)
      → Built aim.codes shape nodes (Marked marks) nodes' (Marked marks') j q r → Built aim.codes shape aim.first_nodes (Marked aim.first_marks) nodes' (Marked marks') 0 aim.whole_page r
  whole_built nodes marks j q e nodes' marks' r h =
      subst (λ (i : ℕ). Built aim.codes shape aim.first_nodes (Marked aim.first_marks) nodes' (Marked marks') i aim.whole_page r) e.at_the_first_level
      (subst (λ p. Built aim.codes shape aim.first_nodes (Marked aim.first_marks) nodes' (Marked marks') j p r) e.is_the_whole_page
      (subst (λ n. Built aim.codes shape n (Marked aim.first_marks) nodes' (Marked marks') j q r) e.in_the_first_nodes
      (subst (λ m. Built aim.codes shape nodes (Marked m) nodes' (Marked marks') j q r) e.with_the_first_marks h)))

  -- a frame gets what it waits for
  module _ (ok : Walkable stands says aim.codes shape) (f : Frame Place) (nodes : List Node) (marks : List ℕ) (j : ℕ) (q : List ℕ) (w : Waits stands says aim.codes shape f nodes marks j q) where
    abbrev asked : Option Link → List Node → List ℕ → Type 0
    asked r nodes'' marks'' =
        Built aim.codes shape w.asked_nodes (Marked w.asked_marks) nodes'' (Marked marks'') w.asked_level (says shape w.asked_nodes w.asked_level f.place) r

    abbrev whole : List ℕ
    whole = says shape w.asked_nodes f.level f.place

    abbrev P : ℕ → List ℕ
    P = in_cell shape f.level whole

    place_stands : stands aim.codes shape w.asked_nodes w.asked_marks f.level f.place
    place_stands = w.same_until_its_level.stands_at_each f.level w.asked_not_later (omega arith)

    long : length whole ≡ grid (drop f.level shape)
    long = ok.places_fill_the_grid w.asked_nodes w.asked_marks f.level f.place place_stands

    each : (c : ℕ) → c < get_or shape f.level 0 → length (P c) ≡ grid (drop (suc f.level) shape)
    each = cell_fills shape f.level w.at_an_attribute whole long

    -- back to the level at which its place was asked for
    lowered : (nodes'' : List Node) (marks'' : List ℕ) (r : Option Link)
        → Built aim.codes shape w.asked_nodes (Marked w.asked_marks) nodes'' (Marked marks'') f.level (runs (get_or shape f.level 0) P) r → asked r nodes'' marks''
    lowered nodes'' marks'' r h =
        lower_to aim.codes shape ok.attributes_have_cells w.asked_nodes (Marked w.asked_marks) nodes'' (Marked marks'') (λ m. says shape w.asked_nodes m f.place) r w.asked_level
        f.level w.asked_not_later w.at_an_attribute w.same_until_its_level.same_in_each_cell
        (λ m a b. ok.places_fill_the_grid w.asked_nodes w.asked_marks m f.place (w.same_until_its_level.stands_at_each m a b))
        (subst (λ p. Built aim.codes shape w.asked_nodes (Marked w.asked_marks) nodes'' (Marked marks'') f.level p r) (cells_are_the_page shape f.level w.at_an_attribute whole long) h)

    small : f.cell < 16
    small = omega (arith, ok.attributes_are_narrow f.level, w.at_a_cell)

    module _ (nodes' : List Node) (marks' : List ℕ) where
      -- what was built is the page of its cell
      of_its_cell : (r : Option Link) → Built aim.codes shape nodes (Marked marks) nodes' (Marked marks') j q r
          → Built aim.codes shape nodes (Marked marks) nodes' (Marked marks') (suc f.level) (P f.cell) r
      of_its_cell r h =
          subst (λ (i : ℕ). Built aim.codes shape nodes (Marked marks) nodes' (Marked marks') i (P f.cell) r) w.waits_one_level_on
          (subst (λ p. Built aim.codes shape nodes (Marked marks) nodes' (Marked marks') j p r) w.waits_for_its_cell h)

      -- a record is lacking for its cell, and so for its place
      lacks_for_its_place : Built aim.codes shape nodes (Marked marks) nodes' (Marked marks') j q None → asked None nodes' marks'
      lacks_for_its_place h =
          lowered nodes' marks' None
          (branch-none shape f.level w.at_an_attribute P each aim.codes w.asked_nodes (Marked w.asked_marks) nodes (Marked marks) nodes' (Marked marks') f.cell w.at_a_cell small
          f.branches w.branches_are_built (of_its_cell None h))

      module _ (l : Link) (h : Built aim.codes shape nodes (Marked marks) nodes' (Marked marks') j q (Some l)) where
        -- one more branch is built
        one_more : BranchesBuilt aim.codes shape w.asked_nodes (Marked w.asked_marks) nodes' (Marked marks') f.level P (f.cell + 1) (set f.branches f.cell l)
        one_more =
            subst (λ (i : ℕ). BranchesBuilt aim.codes shape w.asked_nodes (Marked w.asked_marks) nodes' (Marked marks') f.level P i (set f.branches f.cell l)) (sym (add-one f.cell))
            (branch_more shape f.level w.at_an_attribute P each aim.codes w.asked_nodes (Marked w.asked_marks) nodes (Marked marks) nodes' (Marked marks') f.cell w.at_a_cell small
            f.branches w.branches_are_built l (of_its_cell (Some l) h))

        -- the frame at its next cell
        abbrev further : Frame Place
        further = record { place = f.place; level = f.level; cell = f.cell + 1; branches = set f.branches f.cell l }

        -- it goes on with its next cell
        next_cell : (fs : List (Frame Place))
            → Awaited stands says shape aim fs w.asked_nodes w.asked_marks w.asked_level (says shape w.asked_nodes w.asked_level f.place) → f.cell + 1 < get_or shape f.level 0
            → (p : Place) → LeadsTo stands says aim.codes shape nodes' marks' f.level f.place (f.cell + 1) p → Opening stands says shape aim nodes' marks' (further ∷ fs) (f.level + 1) p
        next_cell fs rest more p leads =
            let kept = ok.places_keep w.asked_nodes w.asked_marks nodes' marks' f.level f.place w.asked_of_sound_memory one_more.memory_has_grown place_stands in
            let led = leads one_more.memory_has_grown.still_sound kept.0 w.at_an_attribute more in
            let o : suc f.level ≡ f.level + 1 = sym (add-one f.level) in
            let low = w.at_an_attribute in
            record {
              walkable = ok;
              level_of_the_shape = omega arith;
              live_is_sound = one_more.memory_has_grown.still_sound;
              place_stands = subst (λ (i : ℕ). stands aim.codes shape nodes' marks' i p) o led.0;
              page_is_awaited = (
                record {
                  asked_nodes = w.asked_nodes;
                  asked_marks = w.asked_marks;
                  asked_level = w.asked_level;
                  asked_not_later = w.asked_not_later;
                  asked_of_sound_memory = w.asked_of_sound_memory;
                  at_an_attribute = low;
                  at_a_cell = more;
                  same_until_its_level = w.same_until_its_level;
                  branches_are_built = one_more;
                  waits_one_level_on = sym o;
                  waits_for_its_cell = ap (λ (i : ℕ). says shape nodes' i p) (sym o) ∙ led.1 ∙ ap (λ v. in_cell shape f.level v (f.cell + 1)) kept.1;
                },
                rest,
              );
            }

        -- or all its branches are built
        module _ (n : ℕ) (cells : n ≡ get_or shape f.level 0) (last : n ≤ f.cell + 1) where
          reducible : Reducible aim.codes shape w.asked_nodes (Marked w.asked_marks) nodes' (Marked marks') f.level P n (set f.branches f.cell l)
          reducible =
              let here = w.at_a_cell in
              let d : f.cell + 1 ≡ n = omega arith in
              record {
                attributes_have_cells = ok.attributes_have_cells;
                at_an_attribute = w.at_an_attribute;
                cells_of_the_attribute = cells;
                pages_fill_the_grid = each;
                branches_are_built =
                    subst (λ (i : ℕ). BranchesBuilt aim.codes shape w.asked_nodes (Marked w.asked_marks) nodes' (Marked marks') f.level P i (set f.branches f.cell l)) d one_more;
              }

          -- and then its place is
          place_built : (nodes'' : List Node) (marks'' : List ℕ) (r : Option Link)
              → Built aim.codes shape w.asked_nodes (Marked w.asked_marks) nodes'' (Marked marks'') f.level (runs n P) r → asked r nodes'' marks''
          place_built nodes'' marks'' r b =
              lowered nodes'' marks'' r
              (subst (λ (m : ℕ). Built aim.codes shape w.asked_nodes (Marked w.asked_marks) nodes'' (Marked marks'') f.level (runs m P) r) cells b)

  -- a record is lacking: for the frames that wait, and so for the whole page
  lacks_for_all : Walkable stands says aim.codes shape → (fs : List (Frame Place)) (nodes : List Node) (marks : List ℕ) (j : ℕ) (q : List ℕ) → Awaited stands says shape aim fs nodes marks j q
      → (nodes' : List Node) (marks' : List ℕ) → Built aim.codes shape nodes (Marked marks) nodes' (Marked marks') j q None
      → Built aim.codes shape aim.first_nodes (Marked aim.first_marks) nodes' (Marked marks') 0 aim.whole_page None
  lacks_for_all ok [] nodes marks j q e nodes' marks' h = whole_built nodes marks j q e nodes' marks' None h
  lacks_for_all ok (f ∷ fs) nodes marks j q e nodes' marks' h =
      let w = e.0 in
      lacks_for_all ok fs w.asked_nodes w.asked_marks w.asked_level (says shape w.asked_nodes w.asked_level f.place) e.1 nodes' marks'
      (lacks_for_its_place ok f nodes marks j q w nodes' marks' h)

  -- there are no more frames than levels
  pub frames-within_levels : (fs : List (Frame Place)) (nodes : List Node) (marks : List ℕ) (j : ℕ) (q : List ℕ) → Awaited stands says shape aim fs nodes marks j q → length fs ≤ j
  frames-within_levels [] nodes marks j q e = omega arith
  frames-within_levels (f ∷ fs) nodes marks j q e =
      let w = e.0 in
      let d = frames-within_levels fs w.asked_nodes w.asked_marks w.asked_level (says shape w.asked_nodes w.asked_level f.place) e.1 in
      let s = w.waits_one_level_on in
      let o = w.asked_not_later in
      omega arith

  -- ---- a place is opened
  module _ (nodes : List Node) (marks : List ℕ) (fs : List (Frame Place)) (j : ℕ) (p : Place) (o : Opening stands says shape aim nodes marks fs j p) where
    -- it branches at level i: a frame waits for its first cell
    pub opened : (i : ℕ) → j ≤ i → i < length shape → SaysTheSameUntil stands says aim.codes shape nodes marks j p i → (q : Place)
        → LeadsTo stands says aim.codes shape nodes marks i p 0 q → Opening stands says shape aim nodes marks (fresh p i ∷ fs) (i + 1) q
    opened i after low until q leads =
        let here : stands aim.codes shape nodes marks i p = until.stands_at_each i after (omega arith) in
        let first : 0 < get_or shape i 0 = o.walkable.attributes_have_cells i low in
        let led = leads o.live_is_sound here low first in
        let s : suc i ≡ i + 1 = sym (add-one i) in
        record {
          walkable = o.walkable;
          level_of_the_shape = omega arith;
          live_is_sound = o.live_is_sound;
          place_stands = subst (λ (m : ℕ). stands aim.codes shape nodes marks m q) s led.0;
          page_is_awaited = (
            record {
              asked_nodes = nodes;
              asked_marks = marks;
              asked_level = j;
              asked_not_later = after;
              asked_of_sound_memory = o.live_is_sound;
              at_an_attribute = low;
              at_a_cell = first;
              same_until_its_level = until;
              branches_are_built =
                  record {
                    memory_has_grown = grown_self aim.codes shape nodes marks o.live_is_sound;
                    only_parts_of_the_page_came = λ ps t. t.0;
                    sixteen_branches = refl;
                    branches_lead_on = λ i l. absurd (omega arith);
                    branches_denote = λ i l. absurd (omega arith);
                    others_are_blank = λ i l. blanks 16 i;
                  };
              waits_one_level_on = sym s;
              waits_for_its_cell = ap (λ (m : ℕ). says shape nodes m q) (sym s) ∙ led.1;
            },
            o.page_is_awaited,
          );
        }

    -- it is settled: its link is handed on
    pub settled : (l : Link) → SettledBy stands says aim.codes shape nodes marks j p l → Handing stands says shape aim nodes marks fs l
    settled l s =
        record {
          walkable = o.walkable;
          asked_nodes = nodes;
          asked_marks = marks;
          asked_level = j;
          asked_page = says shape nodes j p;
          page_is_awaited = o.page_is_awaited;
          page_is_built =
              record {
                memory_has_grown = grown_self aim.codes shape nodes marks o.live_is_sound;
                only_parts_of_the_page_came = λ ps t. t.0;
                link_or_lack = s o.live_is_sound o.place_stands;
              };
        }

  -- ---- a link is handed on
  module _ (nodes : List Node) (marks : List ℕ) where
    -- to no frame: it is the answer
    pub answered : (l : Link) → Handing stands says shape aim nodes marks [] l
        → Built aim.codes shape aim.first_nodes (Marked aim.first_marks) nodes (Marked marks) 0 aim.whole_page (Some l)
    answered l h = whole_built h.asked_nodes h.asked_marks h.asked_level h.asked_page h.page_is_awaited nodes marks (Some l) h.page_is_built

    module _ (f : Frame Place) (fs : List (Frame Place)) (l : Link) (h : Handing stands says shape aim nodes marks (f ∷ fs) l) where
      abbrev w : Waits stands says aim.codes shape f h.asked_nodes h.asked_marks h.asked_level h.asked_page
      w = h.page_is_awaited.0

      pub at_a_cell : f.cell < get_or shape f.level 0
      at_a_cell = w.at_a_cell

      -- to a frame that has more cells
      pub goes_on : f.cell + 1 < get_or shape f.level 0 → (p : Place) → LeadsTo stands says aim.codes shape nodes marks f.level f.place (f.cell + 1) p
          → Opening stands says shape aim nodes marks (record { place = f.place; level = f.level; cell = f.cell + 1; branches = set f.branches f.cell l } ∷ fs) (f.level + 1) p
      goes_on more p leads =
          next_cell h.walkable f h.asked_nodes h.asked_marks h.asked_level h.asked_page w nodes marks l h.page_is_built fs h.page_is_awaited.1 more p leads

      -- to a frame at its last cell, whose branches are then reduced
      module _ (n : ℕ) (cells : n ≡ get_or shape f.level 0) (last : n ≤ f.cell + 1) (nodes'' : List Node) (marks'' : List ℕ) where
        -- what reducing the frame's branches promises
        abbrev Reduces : Option Link → Type 0
        Reduces r =
            (k : ℕ) (shape : List ℕ) (first : List Node) (marks₁ : List ℕ) (P : ℕ → List ℕ) → Reducible k shape first (Marked marks₁) nodes (Marked marks) f.level P n (set f.branches f.cell l)
            → Built k shape first (Marked marks₁) nodes'' (Marked marks'') f.level (runs n P) r

        reduced : (r : Option Link) → Reduces r
            → Built aim.codes shape w.asked_nodes (Marked w.asked_marks) nodes'' (Marked marks'') w.asked_level (says shape w.asked_nodes w.asked_level f.place) r
        reduced r b =
            place_built h.walkable f h.asked_nodes h.asked_marks h.asked_level h.asked_page w nodes marks l h.page_is_built n cells last nodes'' marks'' r
            (b aim.codes shape _ _ _ (reducible h.walkable f h.asked_nodes h.asked_marks h.asked_level h.asked_page w nodes marks l h.page_is_built n cells last))

        pub hands_on : (l' : Link) → Reduces (Some l') → Handing stands says shape aim nodes'' marks'' fs l'
        hands_on l' b =
            record {
              walkable = h.walkable;
              asked_nodes = w.asked_nodes;
              asked_marks = w.asked_marks;
              asked_level = w.asked_level;
              asked_page = says shape w.asked_nodes w.asked_level f.place;
              page_is_awaited = h.page_is_awaited.1;
              page_is_built = reduced (Some l') b;
            }

        pub lacks : Reduces None → Built aim.codes shape aim.first_nodes (Marked aim.first_marks) nodes'' (Marked marks'') 0 aim.whole_page None
        lacks b =
            lacks_for_all h.walkable fs w.asked_nodes w.asked_marks w.asked_level (says shape w.asked_nodes w.asked_level f.place) h.page_is_awaited.1 nodes'' marks'' (reduced None b)

        -- the turn that hands the link on, or ends where there is none
        pub handed_or_ended : (r : Option Link) → Reduces r → (turn : Turn Place) → MatchOption r (turn ≡ End None) (λ l'. turn ≡ Hand l') → Underway stands says shape aim nodes'' marks'' fs turn
        handed_or_ended None b turn is = subst (Underway stands says shape aim nodes'' marks'' fs) (sym is) (lacks b)
        handed_or_ended (Some l') b turn is = subst (Underway stands says shape aim nodes'' marks'' fs) (sym is) (hands_on l' b)

-- ---- a turn that is made of what a push answered
-- what holds of either turn holds of the one that is made
pub after_push : {T A E Pushed Refused : Type 0} (P : T → Type 0) (r : Result A E) (turn ok err : T) → MatchResult r (λ _. Pushed) (λ _. Refused) → MatchResult r (λ _. turn ≡ ok) (λ _. turn ≡ err) → (Pushed → P ok) → (Refused → P err) → P turn
after_push P (Ok a) turn ok err said is pushed refused = subst P (sym is) (pushed said)
after_push P (Err e) turn ok err said is pushed refused = subst P (sym is) (refused said)
