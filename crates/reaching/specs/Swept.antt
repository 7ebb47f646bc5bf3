-- How far the marking of what roots reach has come.
use Rattle.std.specs.Prelude.{◌≡◌, ℕ, ◌<◌, List, length, slice_index, slice_index_or}
use Rattle.marking.specs.Marks.{Marked}
use Rattle.diagram.specs.declared.Node.{Node}
use Rattle.diagram.specs.declared.Link.{Link}
use Rattle.diagram.specs.declared.Link.TheVariants.{Decision, Record}
use Rattle.diagram.specs.Diagram.{node, branch}
use Rattle.diagram.specs.Sound.{Met}

-- what record r leads to in its cells is marked
abbrev pub LeadsToMarked : List ℕ → List Node → List ℕ → ℕ → Type 0
LeadsToMarked shape nodes marks r = (c : ℕ) → c < slice_index shape (node nodes r).level → (s : ℕ) → branch nodes r c ≡ Record s → Marked marks s

-- the roots' records are marked, with a record of a level below j those that it leads to, and nothing that is not met
pub record ClosedBelow (shape : List ℕ) (nodes : List Node) (roots : List Link) (marks : List ℕ) (j : ℕ) : Type 0 where
  pub roots_are_marked : (i r : ℕ) → i < length roots → slice_index_or roots i (Decision 0) ≡ Record r → Marked marks r
  pub what_lower_records_lead_to_is_marked : (r : ℕ) → Marked marks r → (node nodes r).level < j → LeadsToMarked shape nodes marks r
  pub only_what_is_met_is_marked : (r : ℕ) → Marked marks r → Met nodes shape roots r

-- marked records stay marked, and there are as many bytes
pub record StaysMarked (marks marks' : List ℕ) : Type 0 where
  pub as_many_bytes : length marks' ≡ length marks
  pub marked_stays_marked : (r : ℕ) → Marked marks r → Marked marks' r
