-- The algebra of compressor stages: code s from 1 to 6 is the highest stage that may run.
use Rattle.std.specs.Prelude.{ℕ, ◌-◌, min, cond, ◌==◌}
use Rattle.algebra.specs.Tables.{Tables, bounded}

-- the lower of two stages, or the other where one does not apply
abbrev pub lower : ℕ → ℕ → ℕ
lower a b = cond (a == 0) b (cond (b == 0) a (min a b))

-- the stage that both name
abbrev pub common : ℕ → ℕ → ℕ
common a b = cond (a == b) a 0

-- the stages counted from the other end
abbrev pub opposite : ℕ → ℕ
opposite a = cond (a == 0) 0 (7 - a)

-- the algebra of compressor stages, of size 7
abbrev pub stages : Tables
stages = bounded 7 lower common opposite
