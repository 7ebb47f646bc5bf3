-- Pages: one decision for each grid number of a shape.
-- The last attribute runs fastest, so what a page says once a cell of the first attribute is fixed stands together in it, as one chunk.
use Rattle.std.specs.Prelude.{◌≡◌, ℕ, zero, suc, ◌*◌, ◌<◌, Bool, true, false, ◌&&◌, List, [], ◌∷◌, ◌++◌, length, take, drop, Decides, ◌==◌, slice_index}
use Rattle.vocabulary.specs.Grid.{grid, Cells, number}

-- f 0, f 1 and so on up to f (n - 1), one after the other
abbrev pub runs : {X : Type 0} → ℕ → (ℕ → List X) → List X
runs zero f = []
runs (suc n) f = f 0 ++ runs n (λ c. f (suc c))

-- chunk c of a page that is cut into chunks of g decisions
abbrev pub chunk : ℕ → List ℕ → ℕ → List ℕ
chunk g page c = take g (drop (c * g) page)

-- whether two pages are the same, decision by decision
abbrev pub equal : List ℕ → List ℕ → Bool
equal [] [] = true
equal [] (y ∷ ys) = false
equal (x ∷ xs) [] = false
equal (x ∷ xs) (y ∷ ys) = x == y && equal xs ys

-- the test decides whether pages are equal, and two pages of a shape that decide alike for all cells are equal
pub record EqualAsDecided (shape p q : List ℕ) : Type 0 where
  pub test_decides_equality : Decides (equal p q) (p ≡ q)
  pub alike_for_all_cells :
      length p ≡ grid shape → length q ≡ grid shape
      → ((cells : List ℕ) → Cells shape cells → slice_index p (number shape cells) ≡ slice_index q (number shape cells)) → p ≡ q

-- so it is with any two pages of any shape
abbrev pub PagesAreEqualWhereTheyDecideAlike : Type 0
PagesAreEqualWhereTheyDecideAlike = (shape p q : List ℕ) → EqualAsDecided shape p q

-- the page that has for each list of cells the decision f gives them
abbrev pub paged : List ℕ → (List ℕ → ℕ) → List ℕ
paged [] f = f [] ∷ []
paged (n ∷ ns) f = runs n (λ c. paged ns (λ cs. f (c ∷ cs)))

-- cells that are fixed for the first attributes of a shape
abbrev pub Front : List ℕ → List ℕ → Type 0
Front shape [] = Unit {0}
Front [] (c ∷ cs) = ⊥
Front (n ∷ ns) (c ∷ cs) = (c < n) × Front ns cs

-- what a page says of the other attributes once these cells are fixed
abbrev pub left : List ℕ → List ℕ → List ℕ → List ℕ
left shape p [] = p
left [] p (c ∷ cs) = p
left (n ∷ ns) p (c ∷ cs) = left ns (chunk (grid ns) p c) cs

-- what is left once cells are fixed decides, for cells of the other attributes, as the page does for all these cells
abbrev pub WhatIsLeftDecidesAsThePage : Type 0
WhatIsLeftDecidesAsThePage =
    (shape p front cells : List ℕ) → Front shape front → Cells (drop (length front) shape) cells
    → slice_index (left shape p front) (number (drop (length front) shape) cells) ≡ slice_index p (number shape (front ++ cells))

-- a page made of decisions for lists of cells is as long as the grid, and has at their number the decision for the cells
pub record PagedByCells (shape : List ℕ) (f : List ℕ → ℕ) : Type 0 where
  pub as_long_as_the_grid : length (paged shape f) ≡ grid shape
  pub decides_by_the_cells : (cells : List ℕ) → Cells shape cells → slice_index (paged shape f) (number shape cells) ≡ f cells

-- every page made of decisions for lists of cells is so
abbrev pub PagesAreMadeByCells : Type 0
PagesAreMadeByCells = (shape : List ℕ) (f : List ℕ → ℕ) → PagedByCells shape f
