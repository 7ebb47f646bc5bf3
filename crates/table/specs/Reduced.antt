-- From the links of all cells of an attribute to one link.
use Rattle.std.specs.Prelude.{◌≡◌, ℕ, suc, ◌<◌, ◌≤◌, ◌≢◌, ◌⊎◌, List, length, drop, Some, None, Option, slice_index, slice_index_or}
use Rattle.vocabulary.specs.Grid.{grid, Filled}
use Rattle.pages.specs.Pages.{runs}
use Rattle.pages.specs.Parts.{Part}
use Rattle.diagram.specs.declared.Node.{Node}
use Rattle.diagram.specs.declared.Link.{Link}
use Rattle.diagram.specs.declared.Link.TheVariants.{Decision, Record}
use Rattle.diagram.specs.Diagram.{page}
use Rattle.diagram.specs.Sound.{Fit, Meant}
use Rattle.diagram.specs.Growing.{Grown}
use Rattle.table.specs.Made.{Made}
use Rattle.table.specs.Built.{CoversBoth}

-- the branch at a cell
abbrev pub branch_at : List Link → ℕ → Link
branch_at branches c = slice_index_or branches c (Decision 0)

-- the branches of the first n cells are all the same
abbrev pub AllTheSame : ℕ → List Link → Type 0
AllTheSame n branches = (c : ℕ) → c < n → branch_at branches c ≡ branch_at branches 0

-- a branch of the first n cells is another than the first one
abbrev pub OneDiffers : ℕ → List Link → Type 0
OneDiffers n branches = (c : ℕ) × (c < n) × (branch_at branches c ≢ branch_at branches 0)

-- a link to the record of a number, if there is one
abbrev pub to_record : Option ℕ → Option Link
to_record (Some r) = Some (Record r)
to_record None = None

-- all branches are the same: that link is the answer, and nothing is written
pub record OneLinkForAll (nodes : List Node) (marks : List ℕ) (nodes' : List Node) (marks' : List ℕ) (n : ℕ) (branches : List Link) (r : Option Link) : Type 0 where
  pub all_the_same : AllTheSame n branches
  pub answers_that_link : r ≡ Some (branch_at branches 0)
  pub nodes_stay : nodes' ≡ nodes
  pub marks_stay : marks' ≡ marks

-- two branches differ: the record with these branches is found or made, and the answer leads to it
pub record RecordOfTheBranches (nodes : List Node) (marks : List ℕ) (nodes' : List Node) (marks' : List ℕ) (j n : ℕ) (branches : List Link) (r : Option Link) : Type 0 where
  pub one_differs : OneDiffers n branches
  pub number : Option ℕ
  pub answers_its_link : r ≡ to_record number
  pub found_or_made : Made nodes marks nodes' marks' (record { level = j; branches = branches }) number

-- what reducing the branches of n cells at level j answers and leaves, whatever node memory holds
abbrev pub Reduced : List Node → List ℕ → List Node → List ℕ → ℕ → ℕ → List Link → Option Link → Type 0
Reduced nodes marks nodes' marks' j n branches r =
    OneLinkForAll nodes marks nodes' marks' n branches r ⊎ RecordOfTheBranches nodes marks nodes' marks' j n branches r

-- ---- branches that are built one after the other
-- the first c branches denote P 0, P 1 and so on one level on, in memory that has grown by parts of the whole page only; the other branches are blank
pub record BranchesBuilt (k : ℕ) (shape : List ℕ) (nodes : List Node) (Live : ℕ → Type 0) (nodes' : List Node) (Live' : ℕ → Type 0) (j : ℕ) (P : ℕ → List ℕ) (c : ℕ) (branches : List Link) : Type 0 where
  pub memory_has_grown : Grown k shape nodes Live nodes' Live'
  pub only_parts_of_the_page_came : (ps : List Part) → CoversBoth shape nodes Live j (runs (slice_index shape j) P) ps → Meant shape nodes' Live' ps
  pub sixteen_branches : length branches ≡ 16
  pub branches_lead_on : (i : ℕ) → i < c → Fit k nodes' Live' (suc j) (branch_at branches i)
  pub branches_denote : (i : ℕ) → i < c → page nodes' (suc j) (drop (suc j) shape) (branch_at branches i) ≡ P i
  pub others_are_blank : (i : ℕ) → c ≤ i → branch_at branches i ≡ Decision 0

-- the branches of all n cells of the attribute at level j are built
pub record Reducible (k : ℕ) (shape : List ℕ) (nodes : List Node) (Live : ℕ → Type 0) (nodes' : List Node) (Live' : ℕ → Type 0) (j : ℕ) (P : ℕ → List ℕ) (n : ℕ) (branches : List Link) : Type 0 where
  pub attributes_have_cells : Filled shape
  pub at_an_attribute : j < length shape
  pub cells_of_the_attribute : n ≡ slice_index shape j
  pub pages_fill_the_grid : (c : ℕ) → c < slice_index shape j → length (P c) ≡ grid (drop (suc j) shape)
  pub branches_are_built : BranchesBuilt k shape nodes Live nodes' Live' j P n branches
