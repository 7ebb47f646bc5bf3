-- Cells and grid numbers, attribute by attribute.
use Rattle.std.proofs.Common.{◌≡◌, ℕ, zero, suc, ◌+◌, ◌*◌, ◌/◌, ◌%◌, ◌<◌, ◌≤◌, Bool, true, false, cond, ◌&&◌, ltb, List, [], ◌∷◌, ◌++◌, length, get_or, drop, Some, None, Option, sym, refl, ap, ◌∙◌, subst, mul-le-mul_right, mul_assoc, mul_comm, div-lt_iff_lt-mul, add-mul, mul-pos, one-mul, zero-mul, le-mul_of_pos_right, arith}
use native.Mathlib.Nat.{mul-div_cancel_left}
use Rattle.std.proofs.lemmas.List.{append-nil, append_assoc, at_drop_more, at_drop_all}
use Rattle.std.proofs.lemmas.Bool.{lt-ltb, le-ltb, cond-true, cond-false}
use Rattle.short_list.proofs.Few.{few_items}
use Rattle.fields.specs.Fields.{when}
use Rattle.std.specs.List.{AllByRecursion}
use Rattle.vocabulary.specs.declared.record.Shape.{Shape}
use Rattle.vocabulary.specs.Record.{counts_of}
use Rattle.vocabulary.specs.Vocabulary.{Kind, valued, ranged, Attribute, count, shape_of, ProperKind}
use Rattle.vocabulary.specs.Grid.{grid, Narrow, Filled, number, cells_at, are_cells, number_if}
use Rattle.vocabulary.proofs.Gridded.{factor_positive, grid_filled}
use Rattle.vocabulary.proofs.Truncated.{narrow_out}

-- ---- the counts of a shape
-- there are eight at most
pub counts_are_few : (s : Shape) → length (counts_of s) ≤ 8
counts_are_few s = few_items s.counts

-- none is above sixteen
pub counts_are_narrow : (s : Shape) → Narrow (counts_of s)
counts_are_narrow s = narrow_out (counts_of s) s.narrow

-- none is zero
pub counts_are_filled : (s : Shape) → Filled (counts_of s)
counts_are_filled s = grid_filled (counts_of s) (subst (λ (n : ℕ). 0 < n) s.sized s.not_empty)

-- a proper attribute has a cell, for it has a value or two cuts
kind_positive : (k : Kind) → ProperKind k → 0 < count k
kind_positive (valued names) p = p.0
kind_positive (ranged zs) p = let two : 2 ≤ length zs = p.0 in omega arith

-- so the product of the counts is positive
pub grid_positive : (v : List Attribute) → AllByRecursion (λ a. ProperKind a.kind) v → 0 < grid (shape_of v)
grid_positive [] p = omega arith
grid_positive (a ∷ v) p = mul-pos (kind_positive a.kind p.0) (grid_positive v p.1)

-- and has sixteen cells at most
kind_narrow : (k : Kind) → ProperKind k → count k ≤ 16
kind_narrow (valued names) p = p.1
kind_narrow (ranged zs) p = let few : length zs ≤ 17 = p.1 in omega arith

-- so a proper vocabulary has a narrow shape
pub shape_narrow : (v : List Attribute) → AllByRecursion (λ a. ProperKind a.kind) v → Narrow (shape_of v)
shape_narrow [] p i = omega arith
shape_narrow (a ∷ v) p zero = kind_narrow a.kind p.0
shape_narrow (a ∷ v) p (suc i) = shape_narrow v p.1 i

-- ---- from cells to their number
-- the number of cells after attributes whose cells have number n
abbrev pub number_from : ℕ → List ℕ → List ℕ → Option ℕ
number_from n [] [] = Some n
number_from n [] (c ∷ cs) = None
number_from n (k ∷ ns) [] = None
number_from n (k ∷ ns) (c ∷ cs) = cond (ltb c k) (number_from (n * k + c) ns cs) None

-- n counts whole grids of the rest
number-from : (n : ℕ) (ns cs : List ℕ) → number_from n ns cs ≡ when (are_cells ns cs) (n * grid ns + number ns cs)
number-from n [] [] = let e : n ≡ n * 1 + 0 = omega arith in ap Some e
number-from n [] (c ∷ cs) = refl
number-from n (k ∷ ns) [] = refl
number-from n (k ∷ ns) (c ∷ cs) =
    let e : (n * k + c) * grid ns + number ns cs ≡ n * (k * grid ns) + (c * grid ns + number ns cs) = omega (arith, add-mul (n * k) c (grid ns), mul_assoc n k (grid ns)) in
    ap (λ r. cond (ltb c k) r None) (number-from (n * k + c) ns cs ∙ ap (when (are_cells ns cs)) e) ∙ go (ltb c k) (are_cells ns cs) (n * (k * grid ns) + (c * grid ns + number ns cs))
  where
    go : (a b : Bool) (x : ℕ) → cond a (when b x) None ≡ when (a && b) x
    go true b x = refl
    go false b x = refl

-- so from the first attribute on it is the number of all cells
pub number_if_lem : (ns cs : List ℕ) → number_from 0 ns cs ≡ number_if ns cs
number_if_lem ns cs = let e : 0 * grid ns + number ns cs ≡ number ns cs = omega (arith, zero-mul (grid ns)) in number-from 0 ns cs ∙ ap (when (are_cells ns cs)) e

-- there is none where the lengths differ, for one list ends before the other
pub number-none : (n : ℕ) (ns cs : List ℕ) → (length cs ≡ length ns → ⊥) → number_from n ns cs ≡ None
number-none n [] [] d = absurd (d refl)
number-none n [] (c ∷ cs) d = refl
number-none n (k ∷ ns) [] d = refl
number-none n (k ∷ ns) (c ∷ cs) d = ap (λ r. cond (ltb c k) r None) (number-none (n * k + c) ns cs (λ e. d (ap suc e))) ∙ go (ltb c k)
  where
    go : (b : Bool) → ◌≡◌ {A = Option ℕ} (cond b None None) None
    go true = refl
    go false = refl

module _ (ns cs : List ℕ) (i n : ℕ) (h : i < length ns) (l : i < length cs) where
  one : number_from n (drop i ns) (drop i cs) ≡ cond (ltb (get_or cs i 0) (get_or ns i 0)) (number_from (n * get_or ns i 0 + get_or cs i 0) (drop (i + 1) ns) (drop (i + 1) cs)) None
  one = at_drop_more (λ x. number_from n x (drop i cs)) ns i 0 h ∙ at_drop_more (λ x. number_from n (get_or ns i 0 ∷ drop (i + 1) ns) x) cs i 0 l

  -- a cell below its count: go on behind it
  pub number_more : get_or cs i 0 < get_or ns i 0 → number_from n (drop i ns) (drop i cs) ≡ number_from (n * get_or ns i 0 + get_or cs i 0) (drop (i + 1) ns) (drop (i + 1) cs)
  number_more b = one ∙ cond-true _ _ _ (lt-ltb (get_or cs i 0) (get_or ns i 0) b)

  -- any other is no cell
  pub number_stops : get_or ns i 0 ≤ get_or cs i 0 → number_from n (drop i ns) (drop i cs) ≡ None
  number_stops b = one ∙ cond-false _ _ _ (le-ltb (get_or cs i 0) (get_or ns i 0) b)

-- the last attribute leaves the number
pub number_ends : (ns cs : List ℕ) (i n : ℕ) → length ns ≤ i → length cs ≤ i → number_from n (drop i ns) (drop i cs) ≡ Some n
number_ends ns cs i n h l = at_drop_all (λ x. number_from n x (drop i cs)) ns i h ∙ at_drop_all (λ x. number_from n [] x) cs i l

-- ---- the rest of a shape
module _ (ns : List ℕ) (i : ℕ) (h : i < length ns) where
  -- its grid has the next count for a factor
  grid_more : grid (drop i ns) ≡ get_or ns i 0 * grid (drop (i + 1) ns)
  grid_more = at_drop_more grid ns i 0 h

  -- so behind that it is not empty
  pub rest_positive : (g : ℕ) → g < grid (drop i ns) → 0 < grid (drop (i + 1) ns)
  rest_positive g b = factor_positive g (get_or ns i 0) (grid (drop (i + 1) ns)) (subst (λ (m : ℕ). g < m) grid_more b)

  -- with one cell more a number still leaves room for the grids of the rest
  pub number-within : (n c : ℕ) → c < get_or ns i 0 → (n + 1) * grid (drop i ns) ≤ 4096 → (n * get_or ns i 0 + c + 1) * grid (drop (i + 1) ns) ≤ 4096
  number-within n c b w =
      let k : ℕ = get_or ns i 0 in
      let g : ℕ = grid (drop (i + 1) ns) in
      let e : (n + 1) * grid (drop i ns) ≡ (n + 1) * k * g = ap (λ (m : ℕ). (n + 1) * m) grid_more ∙ sym (mul_assoc (n + 1) k g) in
      let s : n * k + c + 1 ≤ (n + 1) * k = omega (arith, add-mul n 1 k, one-mul k) in
      let f : (n * k + c + 1) * g ≤ (n + 1) * k * g = mul-le-mul_right g s in
      omega arith

  -- so it is small itself
  pub number_small : (n c : ℕ) → c < get_or ns i 0 → 0 < grid (drop i ns) → (n + 1) * grid (drop i ns) ≤ 4096 → n * get_or ns i 0 + c < 4096
  number_small n c b p w =
      let f : n * get_or ns i 0 + c + 1 ≤ (n * get_or ns i 0 + c + 1) * grid (drop (i + 1) ns) = le-mul_of_pos_right (n * get_or ns i 0 + c + 1) (rest_positive 0 p) in
      omega (arith, number-within n c b w)

-- ---- from a number to its cells
module _ (ns : List ℕ) (i g size k : ℕ) (h : i < length ns) (is : k ≡ get_or ns i 0) (e : size ≡ grid (drop i ns)) (b : g < size) where
  one_count : size ≡ k * grid (drop (i + 1) ns)
  one_count = e ∙ grid_more ns i h ∙ ap (λ (m : ℕ). m * grid (drop (i + 1) ns)) (sym is)

  below : g < k * grid (drop (i + 1) ns)
  below = subst (λ (m : ℕ). g < m) one_count b

  -- a count is not zero where the grid has a number
  pub count_positive : 0 < k
  count_positive = factor_positive g (grid (drop (i + 1) ns)) k (subst (λ (m : ℕ). g < m) (mul_comm k (grid (drop (i + 1) ns))) below)

  -- dividing by it gives the grid of the rest
  pub size_more : size / k ≡ grid (drop (i + 1) ns)
  size_more = ap (λ (m : ℕ). m / k) one_count ∙ mul-div_cancel_left (grid (drop (i + 1) ns)) count_positive

  pub size_positive : 0 < size / k
  size_positive = subst (λ (m : ℕ). 0 < m) (sym size_more) (factor_positive g k (grid (drop (i + 1) ns)) below)

  -- the cell is below its count
  pub cell_below : g / (size / k) < k
  cell_below = (div-lt_iff_lt-mul size_positive).1 (subst (λ (m : ℕ). g < k * m) (sym size_more) below)

  -- it stands behind the cells before it, and the others follow
  pub cells_more : (cells all : List ℕ) → all ≡ cells ++ cells_at (drop i ns) g → all ≡ (cells ++ (g / (size / k)) ∷ []) ++ cells_at (drop (i + 1) ns) (g % (size / k))
  cells_more cells all s =
      s ∙ ap (λ r. cells ++ r) (at_drop_more (λ x. cells_at x g) ns i 0 h ∙ ap (λ (m : ℕ). (g / m) ∷ cells_at (drop (i + 1) ns) (g % m)) (sym size_more))
      ∙ sym (append_assoc cells ((g / (size / k)) ∷ []) (cells_at (drop (i + 1) ns) (g % (size / k))))

-- behind the last attribute no cell follows
pub cells_end : (ns : List ℕ) (i g : ℕ) (cells all : List ℕ) → length ns ≤ i → all ≡ cells ++ cells_at (drop i ns) g → cells ≡ all
cells_end ns i g cells all h s = sym (s ∙ at_drop_all (λ x. cells ++ cells_at x g) ns i h ∙ append-nil cells)
