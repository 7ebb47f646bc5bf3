-- Marking bytes, one a record.
use Rattle.std.specs.Prelude.{◌≡◌, ℕ, ◌<◌, List, map, length, slice_index, slice_index_or}
use Rattle.std.specs.List.{AllByRecursion}
use Rattle.marking.specs.Marks.{Marked, tally}
use Rattle.pages.specs.Sizes.{size}
use Rattle.diagram.specs.declared.Node.{Node}
use Rattle.diagram.specs.declared.Link.{Link}
use Rattle.diagram.specs.declared.Link.TheVariants.{Decision, Record}
use Rattle.diagram.specs.Diagram.{node, branch, page}
use Rattle.diagram.specs.Sound.{Fit, Met, OfEverySoundSet}

-- the roots' records are marked, with a record those that it leads to, and nothing that is not met
pub record Closed (shape : List ℕ) (nodes : List Node) (roots : List Link) (marks : List ℕ) : Type 0 where
  pub roots_are_marked : (i r : ℕ) → i < length roots → slice_index_or roots i (Decision 0) ≡ Record r → Marked marks r
  pub what_they_lead_to_is_marked : (r : ℕ) → Marked marks r → (c : ℕ) → c < slice_index shape (node nodes r).level → (s : ℕ) → branch nodes r c ≡ Record s → Marked marks s
  pub only_what_is_met_is_marked : (r : ℕ) → Marked marks r → Met nodes shape roots r

-- closed marks are on just the records met, and they are as many as the roots' pages have branching parts
pub record CountedByMarks (shape : List ℕ) (nodes : List Node) (roots : List Link) (marks : List ℕ) : Type 0 where
  pub what_is_met_is_marked : (r : ℕ) → Met nodes shape roots r → Marked marks r
  pub as_many_as_the_size : size shape (map (page nodes 0 shape) roots) ≡ tally (length nodes) marks

-- closed marks count the size, over every sound set
abbrev pub ClosedMarksCountTheSize : Type 0
ClosedMarksCountTheSize =
    OfEverySoundSet λ k shape nodes Live.
    (roots : List Link) → AllByRecursion (Fit k nodes Live 0) roots → (marks : List ℕ) → Closed shape nodes roots marks → CountedByMarks shape nodes roots marks
