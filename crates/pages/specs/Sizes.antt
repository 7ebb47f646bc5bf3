-- Sizes: how many distinct branching parts pages have together.
use Rattle.std.specs.Prelude.{◌≡◌, ℕ, suc, Bool, cond, List, [], ◌∷◌, length}
use mathlib.Core.List.{Memᴰ}
use Rattle.std.specs.List.{flat_map}
use Rattle.pages.specs.Parts.{Part, same, parts, has, Branching}

-- how many distinct elements a list has: each counts where it stands last
abbrev pub count : {X : Type 0} → (X → X → Bool) → List X → ℕ
count eq [] = 0
count eq (x ∷ xs) = cond (has eq x xs) (count eq xs) (suc (count eq xs))

-- the branching parts of pages, as they are met
abbrev pub parts_of : List ℕ → List (List ℕ) → List Part
parts_of shape pages = flat_map (parts 0 shape) pages

-- the number of distinct branching parts of pages together; of one page, its size
abbrev pub size : List ℕ → List (List ℕ) → ℕ
size shape pages = count same (parts_of shape pages)

-- no element of a list stands in it twice
abbrev pub Unrepeated : {X : Type 0} → List X → Type 0
Unrepeated [] = Unit {0}
Unrepeated (x ∷ xs) = (Memᴰ x xs → ⊥) × Unrepeated xs

-- a list has each branching part of the pages, once, and nothing else
pub record ListsTheBranchingParts (shape : List ℕ) (pages : List (List ℕ)) (ps : List Part) : Type 0 where
  pub each_once : Unrepeated ps
  pub each_branches_in_a_page : (q : Part) → Memᴰ q ps → (p : List ℕ) × Memᴰ p pages × Branching shape p q
  pub each_that_branches_is_there : (p : List ℕ) → Memᴰ p pages → (q : Part) → Branching shape p q → Memᴰ q ps

-- there is such a list, and every such list has as many elements as the size says
pub record Sized (shape : List ℕ) (pages : List (List ℕ)) : Type 0 where
  pub some_list_has_them : (ps : List Part) × ListsTheBranchingParts shape pages ps
  pub every_such_list_is_of_the_size : (ps : List Part) → ListsTheBranchingParts shape pages ps → length ps ≡ size shape pages

-- for all pages the size is the number of their branching parts
abbrev pub SizeIsTheNumberOfBranchingParts : Type 0
SizeIsTheNumberOfBranchingParts = (shape : List ℕ) (pages : List (List ℕ)) → Sized shape pages
