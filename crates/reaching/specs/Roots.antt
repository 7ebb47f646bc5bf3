-- Roots, and the records that links mark.
use Rattle.std.specs.Prelude.{ℕ, zero, suc, cond, ◌&&◌, List, [], ◌∷◌, ◌++◌, Some, None, Option, ◌==◌, slice_index, slice_set}
use Rattle.std.specs.List.{AllByRecursion}
use Rattle.diagram.specs.declared.Node.{Node}
use Rattle.diagram.specs.declared.Link.{Link}
use Rattle.diagram.specs.declared.Link.TheVariants.{Decision, Record}
use Rattle.diagram.specs.Diagram.{link}
use Rattle.diagram.specs.Sound.{Fit, Sound, Met}

-- the roots that are there, in order
abbrev pub roots_in : List (Option Link) → List Link
roots_in [] = []
roots_in (None ∷ os) = roots_in os
roots_in (Some l ∷ os) = l ∷ roots_in os

-- the marking bytes with the record of a link marked; a decision marks nothing
abbrev pub marked_by : Link → List ℕ → List ℕ
marked_by (Decision d) marks = marks
marked_by (Record r) marks = slice_set marks r 1

-- the marking bytes with the records of all links marked
abbrev pub marked_by_all : List Link → List ℕ → List ℕ
marked_by_all [] marks = marks
marked_by_all (l ∷ ls) marks = marked_by_all ls (marked_by l marks)

-- the links of a record at its first n cells
abbrev pub first_links : Node → ℕ → List Link
first_links x zero = []
first_links x (suc n) = first_links x n ++ link x n ∷ []

-- the marking bytes after record r of a sweep of level j: if it is live and of this level, its first n links mark theirs
abbrev pub swept_one : ℕ → ℕ → Node → ℕ → List ℕ → List ℕ
swept_one j n x r marks = cond (x.level == j && slice_index marks r == 1) (marked_by_all (first_links x n) marks) marks

-- what the roots reach is sound, and each root may stand on it
pub record SoundRoots (k : ℕ) (shape : List ℕ) (nodes : List Node) (roots : List Link) : Type 0 where
  pub what_they_reach_is_sound : Sound k shape nodes (Met nodes shape roots)
  pub each_root_fits : AllByRecursion (Fit k nodes (Met nodes shape roots) 0) roots
