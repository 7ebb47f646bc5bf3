-- Places: what a building walk is asked to build, seen from the diagram.
-- A place stands at a level of the shape and has a page there; the walk builds the link of that page.
use Rattle.std.specs.Prelude.{◌≡◌, List, ℕ, suc, ◌≤◌, ◌<◌, length, get_or, drop}
use Rattle.vocabulary.specs.Grid.{grid}
use Rattle.pages.specs.Pages.{chunk, runs}
use Rattle.marking.specs.Marks.{Marked}
use Rattle.diagram.specs.declared.Node.{Node}
use Rattle.diagram.specs.declared.Link.{Link}
use Rattle.diagram.specs.Diagram.{page}
use Rattle.diagram.specs.Sound.{Fit, Sound}
use Rattle.diagram.specs.Growing.{Grown}
use Rattle.places.specs.declared.Seen.{Seen}
use Rattle.places.specs.declared.Seen.TheVariants.{Settled, Branches}

-- when a place may stand at a level: by the algebra's size, the shape, the node records, the marking bytes and the level
abbrev pub Standing : Type 0 → Type 1
Standing Place = ℕ → List ℕ → List Node → List ℕ → ℕ → Place → Type 0

-- the page of a place at a level: by the shape, the node records and the level
abbrev pub Paging : Type 0 → Type 0
Paging Place = List ℕ → List Node → ℕ → Place → List ℕ

-- what a page over the shape left at level j says in cell c of that attribute
abbrev pub in_cell : List ℕ → ℕ → List ℕ → ℕ → List ℕ
in_cell shape j p c = chunk (grid (drop (suc j) shape)) p c

-- ---- what a walk asks of places as a whole
-- a place stands, and keeps its page, while node memory grows
abbrev pub KeepWhileMemoryGrows : {Place : Type 0} → Standing Place → Paging Place → ℕ → List ℕ → Type 0
KeepWhileMemoryGrows {Place} stands says k shape =
    (nodes : List Node) (marks : List ℕ) (nodes' : List Node) (marks' : List ℕ) (j : ℕ) (p : Place) → Sound k shape nodes (Marked marks)
    → Grown k shape nodes (Marked marks) nodes' (Marked marks') → stands k shape nodes marks j p
    → stands k shape nodes' marks' j p × (says shape nodes' j p ≡ says shape nodes j p)

-- the page of a place that stands has a decision for each grid number of the shape left
abbrev pub FillTheGrid : {Place : Type 0} → Standing Place → Paging Place → ℕ → List ℕ → Type 0
FillTheGrid {Place} stands says k shape =
    (nodes : List Node) (marks : List ℕ) (j : ℕ) (p : Place) → stands k shape nodes marks j p → length (says shape nodes j p) ≡ grid (drop j shape)

-- ---- what is promised of each place
-- the places that stand and their pages are the same before and after
pub record SamePlaces {Place : Type 0} (stands : Standing Place) (says : Paging Place) (stands' : Standing Place) (says' : Paging Place) : Type 0 where
  pub still_stand : (k : ℕ) (shape : List ℕ) (nodes : List Node) (marks : List ℕ) (j : ℕ) (p : Place) → stands k shape nodes marks j p → stands' k shape nodes marks j p
  pub stood_before : (k : ℕ) (shape : List ℕ) (nodes : List Node) (marks : List ℕ) (j : ℕ) (p : Place) → stands' k shape nodes marks j p → stands k shape nodes marks j p
  pub say_the_same : (shape : List ℕ) (nodes : List Node) (j : ℕ) (p : Place) → says' shape nodes j p ≡ says shape nodes j p

-- q stands one level on, and says what p says in cell c
abbrev pub LeadsTo : {Place : Type 0} → Standing Place → Paging Place → ℕ → List ℕ → List Node → List ℕ → ℕ → Place → ℕ → Place → Type 0
LeadsTo stands says k shape nodes marks j p c q =
    Sound k shape nodes (Marked marks) → stands k shape nodes marks j p → j < length shape → c < get_or shape j 0
    → stands k shape nodes marks (suc j) q × (says shape nodes (suc j) q ≡ in_cell shape j (says shape nodes j p) c)

-- the link l may stand at level j, and denotes the page of p
abbrev pub SettledBy : {Place : Type 0} → Standing Place → Paging Place → ℕ → List ℕ → List Node → List ℕ → ℕ → Place → Link → Type 0
SettledBy stands says k shape nodes marks j p l =
    Sound k shape nodes (Marked marks) → stands k shape nodes marks j p
    → Fit k nodes (Marked marks) j l × (page nodes j (drop j shape) l ≡ says shape nodes j p)

-- from level j up to level i the place stands, and says the same in each cell
pub record SaysTheSameUntil {Place : Type 0} (stands : Standing Place) (says : Paging Place) (k : ℕ) (shape : List ℕ) (nodes : List Node) (marks : List ℕ) (j : ℕ) (p : Place) (i : ℕ) : Type 0 where
  pub stands_at_each : (m : ℕ) → j ≤ m → m ≤ i → stands k shape nodes marks m p
  pub same_in_each_cell : (m : ℕ) → j ≤ m → m < i → says shape nodes m p ≡ runs (get_or shape m 0) (λ c. says shape nodes (suc m) p)

-- what is seen of a place at level j: the link of its page, or the level of the shape at which it branches, whatever node memory holds
abbrev pub SeenAs : {Place : Type 0} → Standing Place → Paging Place → List ℕ → List Node → ℕ → Place → Seen → Type 0
SeenAs stands says shape nodes j p (Settled l) = (k : ℕ) (marks : List ℕ) → SettledBy stands says k shape nodes marks j p l
SeenAs stands says shape nodes j p (Branches i) =
    (j ≤ i) × (i < length shape)
    × ((k : ℕ) (marks : List ℕ) → Sound k shape nodes (Marked marks) → stands k shape nodes marks j p → SaysTheSameUntil stands says k shape nodes marks j p i)
