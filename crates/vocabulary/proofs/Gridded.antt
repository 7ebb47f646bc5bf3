-- Cells and grid numbers, there and back.
use Rattle.std.proofs.Common.{◌≡◌, ℕ, zero, suc, ◌+◌, ◌*◌, ◌/◌, ◌%◌, ◌<◌, true, false, ltb, List, [], ◌∷◌, ◌++◌, refl, ap, ◌∙◌, subst, ap₂, not-suc-le-zero, mod-lt, mul_assoc, mul_comm, div-lt_iff_lt-mul, one-mul, mul-zero, div-add-mod', arith}
use lib.Arith.{digits_lt, digits_div, digits_mod}
use Rattle.std.proofs.lemmas.Bool.{both_ways, ltb-true, lt-ltb, and_parts, and_from}
use Rattle.vocabulary.specs.Grid.{grid, Filled, Cells, number, cells_at, CellsAndNumbersCorrespond, are_cells, CellsAreTested}

-- the number of cells is below the grid size, for a cell of the first attribute counts whole grids of the rest
pub number-below : (ns cells : List ℕ) → Cells ns cells → number ns cells < grid ns
number-below [] [] h = omega arith
number-below [] (c ∷ cs) h = absurd h
number-below (n ∷ ns) [] h = absurd h
number-below (n ∷ ns) (c ∷ cs) h = digits_lt {q = c} {m = n} {r = number ns cs} {c = grid ns} h.0 (number-below ns cs h.1)

-- a number below a product shows that the second factor is not zero
pub factor_positive : (g n m : ℕ) → g < n * m → 0 < m
factor_positive g n zero h = let e = mul-zero n in absurd (omega arith)
factor_positive g n (suc m) h = omega arith

-- so in a grid that has a number every attribute has a cell
pub grid_filled : (ns : List ℕ) → 0 < grid ns → Filled ns
grid_filled [] h i l = absurd (not-suc-le-zero l)
grid_filled (n ∷ ns) h zero l = factor_positive 0 (grid ns) n (subst (λ (m : ℕ). 0 < m) (mul_comm n (grid ns)) h)
grid_filled (n ∷ ns) h (suc i) l = grid_filled ns (factor_positive 0 n (grid ns) h) i (omega arith)

-- quotient and rest of a number below the grid are cells of the shape
pub cells_below : (ns : List ℕ) (g : ℕ) → g < grid ns → Cells ns (cells_at ns g)
cells_below [] g h = tt
cells_below (n ∷ ns) g h =
    let p : 0 < grid ns = factor_positive g n (grid ns) h in
    ((div-lt_iff_lt-mul p).1 h, cells_below ns (g % grid ns) (mod-lt g p))

-- quotient and rest make up the number again
pub number_of_cells : (ns : List ℕ) (g : ℕ) → g < grid ns → number ns (cells_at ns g) ≡ g
number_of_cells [] g h = omega arith
number_of_cells (n ∷ ns) g h =
    let p : 0 < grid ns = factor_positive g n (grid ns) h in
    ap (λ (r : ℕ). g / grid ns * grid ns + r) (number_of_cells ns (g % grid ns) (mod-lt g p)) ∙ div-add-mod' g (grid ns)

-- the cells are quotient and rest of their number, for the rest is below the grid of the rest
pub cells_of_number : (ns cells : List ℕ) → Cells ns cells → cells_at ns (number ns cells) ≡ cells
cells_of_number [] [] h = refl
cells_of_number [] (c ∷ cs) h = absurd h
cells_of_number (n ∷ ns) [] h = absurd h
cells_of_number (n ∷ ns) (c ∷ cs) h =
    let l : number ns cs < grid ns = number-below ns cs h.1 in
    ap₂ (λ (x y : ℕ). x ∷ cells_at ns y) (digits_div c l) (digits_mod c l) ∙ ap {B = List ℕ} (λ r. c ∷ r) (cells_of_number ns cs h.1)

-- the four together
pub cells_and_numbers : CellsAndNumbersCorrespond
cells_and_numbers shape =
    record {
      number_below_grid = number-below shape;
      cells_of_the_shape = cells_below shape;
      number_of_its_cells = number_of_cells shape;
      cells_of_its_number = cells_of_number shape;
    }

-- what passes the test is cells, for each cell passed below its count
tested_cells : (ns cells : List ℕ) → are_cells ns cells ≡ true → Cells ns cells
tested_cells [] [] e = tt
tested_cells [] (c ∷ cs) e = absurd (both_ways false refl e)
tested_cells (n ∷ ns) [] e = absurd (both_ways false refl e)
tested_cells (n ∷ ns) (c ∷ cs) e = let p = and_parts (ltb c n) (are_cells ns cs) e in (ltb-true c n p.0, tested_cells ns cs p.1)

-- cells pass, for each is below its count
cells_tested : (ns cells : List ℕ) → Cells ns cells → are_cells ns cells ≡ true
cells_tested [] [] h = refl
cells_tested [] (c ∷ cs) h = absurd h
cells_tested (n ∷ ns) [] h = absurd h
cells_tested (n ∷ ns) (c ∷ cs) h = and_from (ltb c n) (are_cells ns cs) (lt-ltb c n h.0) (cells_tested ns cs h.1)

-- both together
pub cells_are_tested_lem : CellsAreTested
cells_are_tested_lem shape cells = record { what_passes_is_cells = tested_cells shape cells; cells_pass = cells_tested shape cells }

-- the grid of two shapes together is the product of their grids
pub grid-append : (ms ns : List ℕ) → grid (ms ++ ns) ≡ grid ms * grid ns
grid-append [] ns = omega (arith, one-mul (grid ns))
grid-append (m ∷ ms) ns = ap (λ (g : ℕ). m * g) (grid-append ms ns) ∙ omega (arith, mul_assoc m (grid ms) (grid ns))
