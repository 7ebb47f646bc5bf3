-- Operators on pages: what an operator on codes gives at each grid number.
use Rattle.std.specs.Prelude.{◌≡◌, ℕ, ◌<◌, List, [], ◌∷◌, map, length, slice_index}
use Rattle.pages.specs.Pages.{chunk, paged}

-- an operator on two codes, at each grid number of two pages
abbrev pub combined : (ℕ → ℕ → ℕ) → List ℕ → List ℕ → List ℕ
combined f [] q = []
combined f (x ∷ p) [] = []
combined f (x ∷ p) (y ∷ q) = f x y ∷ combined f p q

-- an operator on two pages is the operator on what they decide, at each grid number and in each chunk
pub record OnTwoPages (f : ℕ → ℕ → ℕ) : Type 0 where
  pub as_long_as_the_pages : (p q : List ℕ) → length p ≡ length q → length (combined f p q) ≡ length p
  pub at_each_number : (p q : List ℕ) (g : ℕ) → g < length p → g < length q → slice_index (combined f p q) g ≡ f (slice_index p g) (slice_index q g)
  pub in_each_chunk : (g : ℕ) (p q : List ℕ) (c : ℕ) → chunk g (combined f p q) c ≡ combined f (chunk g p c) (chunk g q c)
  pub for_all_cells : (shape : List ℕ) (a b : List ℕ → ℕ) → combined f (paged shape a) (paged shape b) ≡ paged shape (λ cells. f (a cells) (b cells))

-- an operator on one page is the operator on what it decides, at each grid number and in each chunk
pub record OnOnePage (f : ℕ → ℕ) : Type 0 where
  pub as_long_as_the_page : (p : List ℕ) → length (map f p) ≡ length p
  pub at_each_number : (p : List ℕ) (g : ℕ) → g < length p → slice_index (map f p) g ≡ f (slice_index p g)
  pub in_each_chunk : (g : ℕ) (p : List ℕ) (c : ℕ) → chunk g (map f p) c ≡ map f (chunk g p c)
  pub for_all_cells : (shape : List ℕ) (a : List ℕ → ℕ) → map f (paged shape a) ≡ paged shape (λ cells. f (a cells))

-- operators on two pages and on one act on what the pages decide
pub record OperatorsActOnDecisions : Type 0 where
  pub on_two_pages : (f : ℕ → ℕ → ℕ) → OnTwoPages f
  pub on_one_page : (f : ℕ → ℕ) → OnOnePage f
