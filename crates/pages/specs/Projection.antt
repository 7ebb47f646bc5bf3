-- Projection by masks: one for each attribute and one for decisions, in which bit c stands for cell or code c.
use Rattle.std.specs.Prelude.{◌≡◌, ℕ, ◌/◌, ◌%◌, ◌^◌, ◌<◌, Bool, true, false, cond, ◌&&◌, List, [], ◌∷◌, length, ◌==◌, slice_index}
use Rattle.vocabulary.specs.Grid.{grid, number, Cells}
use Rattle.pages.specs.Pages.{paged}

-- whether bit c of a mask is set
abbrev pub has_bit : ℕ → ℕ → Bool
has_bit mask c = mask / 2 ^ c % 2 == 1

-- whether the bit of each cell is set in the mask of its attribute
abbrev pub allowed : List ℕ → List ℕ → Bool
allowed [] cells = true
allowed (m ∷ ms) [] = true
allowed (m ∷ ms) (c ∷ cs) = has_bit m c && allowed ms cs

-- the decision for cells where every bit concerned is set, else 0
abbrev pub kept_by : List ℕ → ℕ → List ℕ → ℕ → ℕ
kept_by masks decisions cells d = cond (allowed masks cells && has_bit decisions d) d 0

-- the page that keeps of another what the masks allow
abbrev pub projected : List ℕ → ℕ → List ℕ → List ℕ → List ℕ
projected masks decisions shape p = paged shape (λ cells. kept_by masks decisions cells (slice_index p (number shape cells)))

-- bits below a number are set alike in two masks
abbrev pub AlikeBelow : ℕ → ℕ → ℕ → Type 0
AlikeBelow n mask mask' = (c : ℕ) → c < n → has_bit mask c ≡ has_bit mask' c

-- a projection keeps a decision where the bit of each cell and its own are set, gives 0 where one is not, and no other bit matters
pub record KeepsWhatMasksAllow (masks : List ℕ) (decisions : ℕ) (shape p : List ℕ) : Type 0 where
  pub as_long_as_the_grid : length (projected masks decisions shape p) ≡ grid shape
  pub kept_where_each_bit_is_set :
      (cells : List ℕ) → Cells shape cells → ((i : ℕ) → i < length cells → has_bit (slice_index masks i) (slice_index cells i) ≡ true) → has_bit decisions (slice_index p (number shape cells)) ≡ true
      → slice_index (projected masks decisions shape p) (number shape cells) ≡ slice_index p (number shape cells)
  pub zero_where_the_bit_of_a_cell_is_not :
      (cells : List ℕ) → Cells shape cells → (i : ℕ) → i < length cells → i < length masks → has_bit (slice_index masks i) (slice_index cells i) ≡ false
      → slice_index (projected masks decisions shape p) (number shape cells) ≡ 0
  pub zero_where_the_bit_of_the_decision_is_not :
      (cells : List ℕ) → Cells shape cells → has_bit decisions (slice_index p (number shape cells)) ≡ false → slice_index (projected masks decisions shape p) (number shape cells) ≡ 0
  pub no_other_bit_matters :
      (k : ℕ) (masks' : List ℕ) (decisions' : ℕ) → length masks' ≡ length masks → ((i : ℕ) → AlikeBelow (slice_index shape i) (slice_index masks i) (slice_index masks' i)) → AlikeBelow k decisions decisions'
      → ((g : ℕ) → g < grid shape → slice_index p g < k) → projected masks decisions shape p ≡ projected masks' decisions' shape p

-- every projection does so
abbrev pub ProjectionKeepsWhatMasksAllow : Type 0
ProjectionKeepsWhatMasksAllow = (masks : List ℕ) (decisions : ℕ) (shape p : List ℕ) → KeepsWhatMasksAllow masks decisions shape p
