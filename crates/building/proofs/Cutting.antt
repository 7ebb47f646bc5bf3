-- A page is the run of what it says in the cells of its first attribute.
use Rattle.std.proofs.Common.{◌≡◌, ℕ, zero, suc, ◌+◌, ◌*◌, ◌<◌, ◌≤◌, List, [], ◌∷◌, ◌++◌, length, get_or, take, drop, sym, refl, ap, ◌∙◌, ap₂, mul-le-mul_right, suc-mul, zero-mul, arith, length-drop, take-append-drop, length-take-le, drop-cons, drop-drop}
use Rattle.vocabulary.specs.Grid.{grid}
use Rattle.pages.specs.Pages.{chunk, runs}
use Rattle.pages.proofs.Runs.{runs_same}
use Rattle.places.specs.Places.{in_cell}

empty : (p : List ℕ) → length p ≡ 0 → [] ≡ p
empty [] e = refl
empty (x ∷ p) e = absurd (omega arith)

-- chunks that are run together are the page
runs-chunk : (n g : ℕ) (p : List ℕ) → length p ≡ n * g → runs n (chunk g p) ≡ p
runs-chunk zero g p e = empty p (e ∙ zero-mul g)
runs-chunk (suc n) g p e =
    let m : suc n * g ≡ g + n * g = omega (arith, suc-mul n g) in
    let l : length (drop g p) ≡ n * g = omega (arith, length-drop g p) in
    ap₂ ◌++◌ (ap (λ (i : ℕ). take g (drop i p)) (zero-mul g))
    (runs_same n (λ c. chunk g p (suc c)) (chunk g (drop g p))
    (λ c i. let s : suc c * g ≡ g + c * g = omega (arith, suc-mul c g) in ap (λ (i : ℕ). take g (drop i p)) s ∙ ap (take g) (sym (drop-drop (c * g) g p)))
    ∙ runs-chunk n g (drop g p) l)
    ∙ take-append-drop g p

length-chunk : (n g : ℕ) (p : List ℕ) → length p ≡ n * g → (c : ℕ) → c < n → length (chunk g p c) ≡ g
length-chunk n g p e c l =
    let b : suc c * g ≤ n * g = mul-le-mul_right g l in
    length-take-le g (drop (c * g) p) (omega (arith, length-drop (c * g) p, suc-mul c g))

module _ (shape : List ℕ) (j : ℕ) (low : j < length shape) (p : List ℕ) (e : length p ≡ grid (drop j shape)) where
  long : length p ≡ get_or shape j 0 * grid (drop (suc j) shape)
  long = e ∙ ap grid (drop-cons shape j 0 low)

  -- what a page says in each cell is the page
  pub cells_are_the_page : runs (get_or shape j 0) (in_cell shape j p) ≡ p
  cells_are_the_page = runs-chunk (get_or shape j 0) (grid (drop (suc j) shape)) p long

  -- what it says in a cell fills the grid that is left
  pub cell_fills : (c : ℕ) → c < get_or shape j 0 → length (in_cell shape j p c) ≡ grid (drop (suc j) shape)
  cell_fills = length-chunk (get_or shape j 0) (grid (drop (suc j) shape)) p long
