-- Node memory that grows while something is built.
use Rattle.std.specs.Prelude.{◌≡◌, ℕ, List, length}
use Rattle.diagram.specs.declared.Node.{Node}
use Rattle.diagram.specs.Sound.{Sound, Agree}

-- live records stay as they are, and more may come
pub record Grown (k : ℕ) (shape : List ℕ) (nodes : List Node) (Live : ℕ → Type 0) (nodes' : List Node) (Live' : ℕ → Type 0) : Type 0 where
  pub memory_is_as_long : length nodes' ≡ length nodes
  pub still_sound : Sound k shape nodes' Live'
  pub live_records_stay : Agree Live nodes nodes'
  pub live_stays_live : (r : ℕ) → Live r → Live' r
