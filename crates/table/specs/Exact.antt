-- Building a page where only roots stand: when it can be built, and what comes.
use Rattle.std.specs.Prelude.{ℕ, ◌<◌, ◌≤◌, ◌⊎◌, List, ◌∷◌, map, length, Some, None, Option}
use Rattle.std.specs.List.{AllByRecursion}
use Rattle.vocabulary.specs.Grid.{Filled}
use Rattle.pages.specs.Parts.{Branching}
use Rattle.pages.specs.Sizes.{size}
use Rattle.marking.specs.Marks.{Marked}
use Rattle.diagram.specs.declared.Node.{Node}
use Rattle.diagram.specs.declared.Link.{Link}
use Rattle.diagram.specs.Diagram.{page, part}
use Rattle.diagram.specs.Sound.{Fit, Sound, Met}
use Rattle.table.specs.Built.{Built}

-- the live records are those met from the roots, which may stand
pub record OnlyRootsStand (k : ℕ) (shape : List ℕ) (nodes : List Node) (marks : List ℕ) (roots : List Link) : Type 0 where
  pub attributes_have_cells : Filled shape
  pub live_is_sound : Sound k shape nodes (Marked marks)
  pub roots_may_stand : AllByRecursion (Fit k nodes (Marked marks) 0) roots
  pub only_what_they_meet_is_live : (r : ℕ) → Marked marks r → Met nodes shape roots r

-- there is an answer where page and standing pages have no more distinct branching parts than there are records, and none where they have more
abbrev pub AnsweredByCapacity : List ℕ → ℕ → List (List ℕ) → Option Link → Type 0
AnsweredByCapacity shape records pages (Some l) = size shape pages ≤ records
AnsweredByCapacity shape records pages None = records < size shape pages

-- building a page answers exactly where there are records for the parts of the page and of all standing pages together
abbrev pub CapacityDecides : Type 0
CapacityDecides =
    (k : ℕ) (shape : List ℕ) (nodes : List Node) (marks : List ℕ) (roots : List Link) → OnlyRootsStand k shape nodes marks roots
    → (nodes' : List Node) (marks' : List ℕ) (p : List ℕ) (r : Option Link) → Built k shape nodes (Marked marks) nodes' (Marked marks') 0 p r
    → AnsweredByCapacity shape (length nodes) (p ∷ map (page nodes 0 shape) roots) r

-- each record that is live afterwards was live, or holds a branching part of the page
abbrev pub OnlyPartsOfThePageCome : Type 0
OnlyPartsOfThePageCome =
    (k : ℕ) (shape : List ℕ) (nodes : List Node) (marks : List ℕ) (roots : List Link) → OnlyRootsStand k shape nodes marks roots
    → (nodes' : List Node) (marks' : List ℕ) (p : List ℕ) (r : Option Link) → Built k shape nodes (Marked marks) nodes' (Marked marks') 0 p r
    → (s : ℕ) → Marked marks' s → Marked marks s ⊎ Branching shape p (part nodes' shape s)
