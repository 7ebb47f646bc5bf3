-- Shapes, cells and grid numbers.
-- A shape is the list of cell counts, one an attribute. A grid number counts the cells of a shape with the last attribute fastest.
use Rattle.std.specs.Prelude.{◌≡◌, ℕ, ◌+◌, ◌*◌, ◌/◌, ◌%◌, ◌<◌, ◌≤◌, Bool, true, false, ◌&&◌, List, [], ◌∷◌, length, Option, nat_lt, slice_index}
use Rattle.fields.specs.Fields.{when}

-- the grid size of a shape is the product of its counts
abbrev pub grid : List ℕ → ℕ
grid [] = 1
grid (n ∷ ns) = n * grid ns

-- every attribute has a cell
abbrev pub Filled : List ℕ → Type 0
Filled shape = (i : ℕ) → i < length shape → 0 < slice_index shape i

-- no attribute has more than sixteen cells
abbrev pub Narrow : List ℕ → Type 0
Narrow shape = (i : ℕ) → slice_index shape i ≤ 16

-- cells of a shape: for each attribute one below its count
abbrev pub Cells : List ℕ → List ℕ → Type 0
Cells [] [] = Unit {0}
Cells [] (c ∷ cs) = ⊥
Cells (n ∷ ns) [] = ⊥
Cells (n ∷ ns) (c ∷ cs) = (c < n) × Cells ns cs

-- the grid number of cells
abbrev pub number : List ℕ → List ℕ → ℕ
number [] cells = 0
number (n ∷ ns) [] = 0
number (n ∷ ns) (c ∷ cs) = c * grid ns + number ns cs

-- the cells of a grid number
abbrev pub cells_at : List ℕ → ℕ → List ℕ
cells_at [] g = []
cells_at (n ∷ ns) g = (g / grid ns) ∷ cells_at ns (g % grid ns)

-- cells and grid numbers correspond one to one
pub record OneToOne (shape : List ℕ) : Type 0 where
  pub number_below_grid : (cells : List ℕ) → Cells shape cells → number shape cells < grid shape
  pub cells_of_the_shape : (g : ℕ) → g < grid shape → Cells shape (cells_at shape g)
  pub number_of_its_cells : (g : ℕ) → g < grid shape → number shape (cells_at shape g) ≡ g
  pub cells_of_its_number : (cells : List ℕ) → Cells shape cells → cells_at shape (number shape cells) ≡ cells

-- in every shape cells and grid numbers correspond one to one
abbrev pub CellsAndNumbersCorrespond : Type 0
CellsAndNumbersCorrespond = (shape : List ℕ) → OneToOne shape

-- ---- what a shape answers, whatever it is asked
-- whether these are cells of a shape
abbrev pub are_cells : List ℕ → List ℕ → Bool
are_cells [] [] = true
are_cells [] (c ∷ cs) = false
are_cells (n ∷ ns) [] = false
are_cells (n ∷ ns) (c ∷ cs) = nat_lt c n && are_cells ns cs

-- the test passes cells of the shape and nothing else
pub record Tested (shape cells : List ℕ) : Type 0 where
  pub what_passes_is_cells : are_cells shape cells ≡ true → Cells shape cells
  pub cells_pass : Cells shape cells → are_cells shape cells ≡ true

-- in every shape the test for cells holds exactly of its lists of cells
abbrev pub CellsAreTested : Type 0
CellsAreTested = (shape cells : List ℕ) → Tested shape cells

-- the count of attribute i, if there is one
abbrev pub count_if : List ℕ → ℕ → Option ℕ
count_if shape i = when (nat_lt i (length shape)) (slice_index shape i)

-- the grid number of cells, if they are cells of the shape
abbrev pub number_if : List ℕ → List ℕ → Option ℕ
number_if shape cells = when (are_cells shape cells) (number shape cells)

-- the cells of a number, if it is a grid number of the shape
abbrev pub cells_if : List ℕ → ℕ → Option (List ℕ)
cells_if shape g = when (nat_lt g (grid shape)) (cells_at shape g)
