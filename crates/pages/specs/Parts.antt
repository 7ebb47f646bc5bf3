-- The branching parts of a page.
-- Cells are fixed for the first attributes; what the page then says of the others is a part, and it branches if two cells of the next attribute leave something different.
use Rattle.std.specs.Prelude.{◌≡◌, ℕ, zero, suc, ◌<◌, Bool, true, false, not, ◌&&◌, ◌||◌, ◌≢◌, List, [], ◌∷◌, ◌++◌, length, ◌==◌, slice_index}
use Rattle.vocabulary.specs.Grid.{grid}
use Rattle.pages.specs.Pages.{runs, chunk, equal, Front, left}

-- a part: for how many attributes cells are fixed, which is its level, and what is then said of the others
abbrev pub Part : Type 0
Part = ℕ × List ℕ

-- whether two parts are the same, in level and in every decision
abbrev pub same : Part → Part → Bool
same a b = a.0 == b.0 && equal a.1 b.1

-- ---- in words
-- q is a branching part of page p: cells are fixed, and two cells of the next attribute leave something different
pub record Branching (shape p : List ℕ) (q : Part) : Type 0 where
  pub cells : List ℕ
  pub cells_of_first_attributes : Front shape cells
  pub level_is_their_number : q.0 ≡ length cells
  pub says_what_is_left : q.1 ≡ left shape p cells
  pub one : ℕ
  pub other : ℕ
  pub one_is_a_cell : one < slice_index shape (length cells)
  pub other_is_a_cell : other < slice_index shape (length cells)
  pub leave_something_different : left shape p (cells ++ one ∷ []) ≢ left shape p (cells ++ other ∷ [])

-- ---- computed
-- whether some f c with c below n is another page than p
abbrev pub differs : ℕ → (ℕ → List ℕ) → List ℕ → Bool
differs zero f p = false
differs (suc n) f p = not (equal (f 0) p) || differs n (λ c. f (suc c)) p

-- x alone where the test holds, else nothing
abbrev pub only_if : {X : Type 0} → Bool → X → List X
only_if true x = x ∷ []
only_if false x = []

-- the branching parts of a page over the shape that is left at level j, as they are met; one that is met twice stands twice
abbrev pub parts : ℕ → List ℕ → List ℕ → List Part
parts j [] p = []
parts j (n ∷ ns) p = only_if (differs n (chunk (grid ns) p) (chunk (grid ns) p 0)) (j, p) ++ runs n (λ c. parts (suc j) ns (chunk (grid ns) p c))

-- whether x is among the elements of a list, by the test eq
abbrev pub has : {X : Type 0} → (X → X → Bool) → X → List X → Bool
has eq x [] = false
has eq x (y ∷ ys) = eq x y || has eq x ys

-- ---- the two are the same
-- what is computed for a page has q exactly where q is a branching part in words
pub record ComputedAsWorded (shape p : List ℕ) (q : Part) : Type 0 where
  pub what_is_computed_branches : has same q (parts 0 shape p) ≡ true → Branching shape p q
  pub what_branches_is_computed : Branching shape p q → has same q (parts 0 shape p) ≡ true

-- for every page the computed list has its branching parts and nothing else
abbrev pub PartsAreTheBranchingParts : Type 0
PartsAreTheBranchingParts = (shape p : List ℕ) (q : Part) → ComputedAsWorded shape p q
