-- What a policy from outside means.
use Rattle.std.specs.Prelude.{◌≡◌, ℕ, ◌<◌, ◌≤◌, List}
use Rattle.vocabulary.specs.Grid.{grid}

-- a shape, the size of an algebra, and a decision for each grid number
pub record Meaning : Type 0 where
  pub shape : List ℕ
  pub size : ℕ
  pub decision : ℕ → ℕ

-- each decision is below the size, and beyond the grid it is 0
pub record Lawful (m : Meaning) : Type 0 where
  pub decisions_below_the_size : (g : ℕ) → m.decision g < m.size
  pub zero_beyond_the_grid : (g : ℕ) → grid m.shape ≤ g → m.decision g ≡ 0
