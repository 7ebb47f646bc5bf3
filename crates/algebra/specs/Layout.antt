-- How lists hold tables: sixteen rows of sixteen codes, one after another.
use Rattle.std.specs.Prelude.{ℕ, ◌+◌, ◌*◌, List, slice_index}
use Rattle.algebra.specs.Tables.{Tables, bounded}

-- what stands in a row and a column
abbrev pub entry : List ℕ → ℕ → ℕ → ℕ
entry rows a b = slice_index rows (16 * a + b)

-- the tables of size k that three lists hold
abbrev pub laid_out : ℕ → List ℕ → List ℕ → List ℕ → Tables
laid_out k sums meets negations = bounded k (entry sums) (entry meets) (λ a. slice_index negations a)
