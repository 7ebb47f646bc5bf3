-- Making a policy beside those that stand, each given by its root.
use Rattle.std.specs.Prelude.{◌≡◌, ℕ, ◌<◌, ◌≤◌, List, ◌∷◌, map, length, Some, None, Option}
use Rattle.vocabulary.specs.Grid.{Filled}
use Rattle.pages.specs.Sizes.{size}
use Rattle.marking.specs.Marks.{Marked}
use Rattle.diagram.specs.declared.Node.{Node}
use Rattle.diagram.specs.declared.Link.{Link}
use Rattle.diagram.specs.Diagram.{page}
use Rattle.diagram.specs.Marks.{Closed}
use Rattle.reaching.specs.Roots.{SoundRoots}
use Rattle.table.specs.Built.{Built}

-- the pages of roots
abbrev pub pages_of : List ℕ → List Node → List Link → List (List ℕ)
pages_of shape nodes roots = map (page nodes 0 shape) roots

-- what the roots reach is sound in the new memory, and they denote the pages that they denoted
pub record StillStand (k : ℕ) (shape : List ℕ) (nodes nodes' : List Node) (roots : List Link) : Type 0 where
  pub roots_are_sound : SoundRoots k shape nodes' roots
  pub pages_are_kept : pages_of shape nodes' roots ≡ pages_of shape nodes roots

-- a root stands beside the others and denotes the page, and the records sufficed for all
pub record StandsBeside (k : ℕ) (shape : List ℕ) (nodes nodes' : List Node) (roots : List Link) (p : List ℕ) (l : Link) : Type 0 where
  pub all_roots_are_sound : SoundRoots k shape nodes' (l ∷ roots)
  pub denotes_the_page : page nodes' 0 shape l ≡ p
  pub records_suffice : size shape (p ∷ pages_of shape nodes roots) ≤ length nodes

-- the answer is a root that stands beside the others, or none, and then the page and the standing ones have more distinct branching parts than there are records
abbrev pub RootOrLack : ℕ → List ℕ → List Node → List Node → List Link → List ℕ → Option Link → Type 0
RootOrLack k shape nodes nodes' roots p (Some l) = StandsBeside k shape nodes nodes' roots p l
RootOrLack k shape nodes nodes' roots p None = length nodes < size shape (p ∷ pages_of shape nodes roots)

-- the page p is made beside the roots
pub record Makes (k : ℕ) (shape : List ℕ) (nodes : List Node) (roots : List Link) (nodes' : List Node) (p : List ℕ) (r : Option Link) : Type 0 where
  pub memory_is_as_long : length nodes' ≡ length nodes
  pub others_still_stand : StillStand k shape nodes nodes' roots
  pub root_or_lack : RootOrLack k shape nodes nodes' roots p r

-- where just what the roots reach is marked, a page that is built is made beside them
abbrev pub WhatIsBuiltIsMade : Type 0
WhatIsBuiltIsMade =
    (k : ℕ) (shape : List ℕ) (nodes : List Node) (roots : List Link) (marks : List ℕ) → Filled shape → SoundRoots k shape nodes roots → Closed shape nodes roots marks
    → (nodes' : List Node) (marks' : List ℕ) (p : List ℕ) (r : Option Link) → Built k shape nodes (Marked marks) nodes' (Marked marks') 0 p r → Makes k shape nodes roots nodes' p r
