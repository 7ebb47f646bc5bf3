-- Counting how often a code is decided.
use Rattle.std.proofs.Common.{ℕ, zero, suc, ◌≤◌, Bool, true, false, cond, eqb, arith}
use Rattle.policy.specs.Counts.{how_many}

-- one number counts at most once
pub at_most_one : (b : Bool) → cond b 1 0 ≤ 1
at_most_one true = omega arith
at_most_one false = omega arith

-- no code is decided more often than there are numbers
pub at_most_all : (decision : ℕ → ℕ) (c n : ℕ) → how_many decision c n ≤ n
at_most_all decision c zero = omega arith
at_most_all decision c (suc n) = omega (arith, at_most_all decision c n, at_most_one (eqb (decision n) c))
