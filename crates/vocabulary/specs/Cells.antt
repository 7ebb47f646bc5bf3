-- The cell of a number among rising cuts.
use Rattle.std.specs.Prelude.{◌≡◌, ℕ, zero, suc, ◌-◌, ◌<◌, ◌≤◌, true, false, cond, ◌⊎◌, List, [], ◌∷◌, length, ℤ, pos, negsuc, Some, None, Option, int_lt, slice_index_or}
use Rattle.fields.specs.Words.{rises}

-- the cell that ends at cut i; none ends at cut 0
abbrev pub ending_at : ℕ → Option ℕ
ending_at zero = None
ending_at (suc c) = Some c

-- the cell that ends at the first cut above x; the cuts are numbered from i
abbrev pub cell_from : ℕ → List ℤ → ℤ → Option ℕ
cell_from i [] x = None
cell_from i (cut ∷ zs) x = cond (int_lt x cut) (ending_at i) (cell_from (suc i) zs x)

-- the cell of a number between cuts, counted from 0
abbrev pub cell_of : List ℤ → ℤ → Option ℕ
cell_of zs x = cell_from 0 zs x

-- cut j
abbrev pub cut : List ℤ → ℕ → ℤ
cut zs j = slice_index_or zs j (pos 0)

-- c is the cell of the last cut that is not above x, and a further cut ends it
pub record LastCutNotAbove (zs : List ℤ) (x : ℤ) (c : ℕ) : Type 0 where
  pub ended_by_a_cut : suc c < length zs
  pub not_above : int_lt x (cut zs c) ≡ false
  pub later_ones_above : (j : ℕ) → c < j → j < length zs → int_lt x (cut zs j) ≡ true

-- the cell found for a number among cuts
pub record CellFound (zs : List ℤ) (x : ℤ) : Type 0 where
  pub some_is_the_last_cut_not_above : (c : ℕ) → cell_of zs x ≡ Some c → LastCutNotAbove zs x c
  pub last_cut_not_above_is_found : (c : ℕ) → LastCutNotAbove zs x c → cell_of zs x ≡ Some c
  pub none_below_the_first : int_lt x (cut zs 0) ≡ true → cell_of zs x ≡ None
  pub none_from_the_last_on : int_lt x (cut zs (length zs - 1)) ≡ false → cell_of zs x ≡ None
  pub none_only_there : cell_of zs x ≡ None → (int_lt x (cut zs 0) ≡ true) ⊎ (int_lt x (cut zs (length zs - 1)) ≡ false)

-- for rising cuts, the cell is that of the last cut not above the number
abbrev pub CellIsOfTheLastCutNotAbove : Type 0
CellIsOfTheLastCutNotAbove = (zs : List ℤ) (x : ℤ) → 1 ≤ length zs → rises zs ≡ true → CellFound zs x

-- ---- worked cells
-- the cuts -200, 70 and 350 bound two cells
abbrev pub worked_cuts : List ℤ
worked_cuts = negsuc 199 ∷ pos 70 ∷ pos 350 ∷ []

-- cells of numbers at, below and beyond the worked cuts
pub record WorkedCells : Type 0 where
  pub at_the_first_cut : cell_of worked_cuts (negsuc 199) ≡ Some 0
  pub just_below_a_cut : cell_of worked_cuts (pos 69) ≡ Some 0
  pub at_a_cut : cell_of worked_cuts (pos 70) ≡ Some 1
  pub just_below_the_last_cut : cell_of worked_cuts (pos 349) ≡ Some 1
  pub below_the_first_cut : cell_of worked_cuts (negsuc 200) ≡ None
  pub at_the_last_cut : cell_of worked_cuts (pos 350) ≡ None
