-- Links as places whose pages are projected by masks.
use Rattle.std.specs.Prelude.{◌≡◌, ℕ, ◌<◌, ◌≤◌, Bool, true, false, List, length, drop, Some, None, Option, ◌==◌, slice_index}
use Rattle.pages.specs.Projection.{has_bit, projected}
use Rattle.marking.specs.Marks.{Marked}
use Rattle.diagram.specs.declared.Node.{Node}
use Rattle.diagram.specs.declared.Link.{Link}
use Rattle.diagram.specs.declared.Link.TheVariants.{Decision, Record}
use Rattle.diagram.specs.Diagram.{node, page}
use Rattle.diagram.specs.Sound.{Fit}
use Rattle.places.specs.Places.{Standing, Paging}

-- there are as many masks as attributes, not applicable is a code, and the link may stand at level j
pub record MaskedFits (masks : List ℕ) (k : ℕ) (shape : List ℕ) (nodes : List Node) (marks : List ℕ) (j : ℕ) (l : Link) : Type 0 where
  pub as_many_masks_as_attributes : length masks ≡ length shape
  pub zero_is_a_code : 0 < k
  pub link_fits : Fit k nodes (Marked marks) j l

-- a link stands where it fits and each attribute has a mask
abbrev pub projection_stands : List ℕ → Standing Link
projection_stands masks k shape nodes marks j l = MaskedFits masks k shape nodes marks j l

-- it says what the masks that are left keep of its page
abbrev pub projection_says : List ℕ → ℕ → Paging Link
projection_says masks decisions shape nodes j l = projected (drop j masks) decisions (drop j shape) (page nodes j (drop j shape) l)

-- whether the record of a link stands at level j
abbrev pub stands_at : List Node → ℕ → Link → Bool
stands_at nodes j (Decision d) = false
stands_at nodes j (Record r) = (node nodes r).level == j

-- the mask leaves one of n cells out, or it has the bit of each
abbrev pub LeavesOut : ℕ → ℕ → Bool → Type 0
LeavesOut mask n true = (c : ℕ) × (c < n) × (has_bit mask c ≡ false)
LeavesOut mask n false = (c : ℕ) → c < n → has_bit mask c ≡ true

-- from level j up to level i no record of the link stands, and no cell is left out
pub record PassedOn (masks shape : List ℕ) (nodes : List Node) (j i : ℕ) (l : Link) : Type 0 where
  pub no_record_stands : (m : ℕ) → j ≤ m → m < i → stands_at nodes m l ≡ false
  pub no_cell_is_left_out : (m : ℕ) → j ≤ m → m < i → (c : ℕ) → c < slice_index shape m → has_bit (slice_index masks m) c ≡ true

-- a level of the shape up to which the link is passed on, or it is passed on to the end
abbrev pub FirstBranch : List ℕ → List ℕ → List Node → ℕ → Link → Option ℕ → Type 0
FirstBranch masks shape nodes j l (Some i) = (j ≤ i) × (i < length shape) × PassedOn masks shape nodes j i l
FirstBranch masks shape nodes j l None = PassedOn masks shape nodes j (length shape) l
