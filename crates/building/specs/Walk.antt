-- The building walk: what its frames wait for, and what is known at each turn.
use Rattle.std.specs.Prelude.{◌≡◌, ℕ, suc, ◌<◌, ◌≤◌, List, [], ◌∷◌, length, replicate, Some, slice_index}
use Rattle.vocabulary.specs.Grid.{Filled, Narrow}
use Rattle.marking.specs.Marks.{Marked}
use Rattle.diagram.specs.declared.Node.{Node}
use Rattle.diagram.specs.declared.Link.{Link}
use Rattle.diagram.specs.declared.Link.TheVariants.{Decision}
use Rattle.diagram.specs.Sound.{Sound}
use Rattle.places.specs.Places.{Standing, Paging, in_cell, KeepWhileMemoryGrows, FillTheGrid, SaysTheSameUntil}
use Rattle.table.specs.Built.{Built}
use Rattle.table.specs.Reduced.{BranchesBuilt}
use Rattle.building.specs.declared.Frame.{Frame}
use Rattle.building.specs.declared.Turn.{Turn}
use Rattle.building.specs.declared.Turn.TheVariants.{Open, Hand, End}

-- a frame at the first cell, with blank branches
abbrev pub fresh : {Place : Type 0} → Place → ℕ → Frame Place
fresh p j = record { place = p; level = j; cell = 0; branches = replicate 16 (Decision 0) }

-- where a walk began, and the page that it is to build: the number of codes, node records and marking bytes, and the page
pub record Aim : Type 0 where
  pub codes : ℕ
  pub first_nodes : List Node
  pub first_marks : List ℕ
  pub whole_page : List ℕ

-- what a walk relies on: the shape's attributes have 1 to 16 cells, and places keep while memory grows and fill the grid
pub record Walkable {Place : Type 0} (stands : Standing Place) (says : Paging Place) (k : ℕ) (shape : List ℕ) : Type 0 where
  pub attributes_have_cells : Filled shape
  pub attributes_are_narrow : Narrow shape
  pub places_keep : KeepWhileMemoryGrows stands says k shape
  pub places_fill_the_grid : FillTheGrid stands says k shape

-- frame f waits for a link of the page q at level j: its place was asked for in a memory and at a level, says the same until the frame's level, and the branches of the cells before its own are built
pub record Waits {Place : Type 0} (stands : Standing Place) (says : Paging Place) (k : ℕ) (shape : List ℕ) (f : Frame Place) (nodes : List Node) (marks : List ℕ) (j : ℕ) (q : List ℕ) : Type 0 where
  pub asked_nodes : List Node
  pub asked_marks : List ℕ
  pub asked_level : ℕ
  pub asked_not_later : asked_level ≤ f.level
  pub asked_of_sound_memory : Sound k shape asked_nodes (Marked asked_marks)
  pub at_an_attribute : f.level < length shape
  pub at_a_cell : f.cell < slice_index shape f.level
  pub same_until_its_level : SaysTheSameUntil stands says k shape asked_nodes asked_marks asked_level f.place f.level
  pub branches_are_built :
      BranchesBuilt k shape asked_nodes (Marked asked_marks) nodes (Marked marks) f.level (in_cell shape f.level (says shape asked_nodes f.level f.place)) f.cell f.branches
  pub waits_one_level_on : j ≡ suc f.level
  pub waits_for_its_cell : q ≡ in_cell shape f.level (says shape asked_nodes f.level f.place) f.cell

-- no frame waits: what is asked for is the whole page, in the memory in which the walk began
pub record AskedFirst (aim : Aim) (nodes : List Node) (marks : List ℕ) (j : ℕ) (q : List ℕ) : Type 0 where
  pub at_the_first_level : j ≡ 0
  pub is_the_whole_page : q ≡ aim.whole_page
  pub in_the_first_nodes : nodes ≡ aim.first_nodes
  pub with_the_first_marks : marks ≡ aim.first_marks

-- the frames, the newest first, wait for a link of the page q at level j, built from the memory given; what the newest was asked for is what the others wait for
abbrev pub Awaited : {Place : Type 0} → Standing Place → Paging Place → List ℕ → Aim → List (Frame Place) → List Node → List ℕ → ℕ → List ℕ → Type 0
Awaited stands says shape aim [] nodes marks j q = AskedFirst aim nodes marks j q
Awaited stands says shape aim (f ∷ fs) nodes marks j q =
    (w : Waits stands says aim.codes shape f nodes marks j q)
    × Awaited stands says shape aim fs w.asked_nodes w.asked_marks w.asked_level (says shape w.asked_nodes w.asked_level f.place)

-- place p is to be opened at level j, and the frames wait for a link of its page
pub record Opening {Place : Type 0} (stands : Standing Place) (says : Paging Place) (shape : List ℕ) (aim : Aim) (nodes : List Node) (marks : List ℕ) (fs : List (Frame Place)) (j : ℕ) (p : Place) : Type 0 where
  pub walkable : Walkable stands says aim.codes shape
  pub level_of_the_shape : j ≤ length shape
  pub live_is_sound : Sound aim.codes shape nodes (Marked marks)
  pub place_stands : stands aim.codes shape nodes marks j p
  pub page_is_awaited : Awaited stands says shape aim fs nodes marks j (says shape nodes j p)

-- link l is to be handed to the newest frame, and is built as it was asked for
pub record Handing {Place : Type 0} (stands : Standing Place) (says : Paging Place) (shape : List ℕ) (aim : Aim) (nodes : List Node) (marks : List ℕ) (fs : List (Frame Place)) (l : Link) : Type 0 where
  pub walkable : Walkable stands says aim.codes shape
  pub asked_nodes : List Node
  pub asked_marks : List ℕ
  pub asked_level : ℕ
  pub asked_page : List ℕ
  pub page_is_awaited : Awaited stands says shape aim fs asked_nodes asked_marks asked_level asked_page
  pub page_is_built : Built aim.codes shape asked_nodes (Marked asked_marks) nodes (Marked marks) asked_level asked_page (Some l)

-- what is known at each turn; at the end the whole page is built
abbrev pub Underway : {Place : Type 0} → Standing Place → Paging Place → List ℕ → Aim → List Node → List ℕ → List (Frame Place) → Turn Place → Type 0
Underway stands says shape aim nodes marks fs (Open j p) = Opening stands says shape aim nodes marks fs j p
Underway stands says shape aim nodes marks fs (Hand l) = Handing stands says shape aim nodes marks fs l
Underway stands says shape aim nodes marks fs (End r) = Built aim.codes shape aim.first_nodes (Marked aim.first_marks) nodes (Marked marks) 0 aim.whole_page r
