-- How often a code is decided.
use Rattle.std.specs.Prelude.{ℕ, zero, suc, ◌+◌, cond, ◌==◌}

-- how many numbers below n have the decision c
abbrev pub how_many : (ℕ → ℕ) → ℕ → ℕ → ℕ
how_many decision c zero = 0
how_many decision c (suc n) = how_many decision c n + cond (decision n == c) 1 0
