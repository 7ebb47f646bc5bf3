-- The tables of an algebra over the codes below its size; 0 says that nothing applies.
use Rattle.std.specs.Prelude.{ℕ, cond, nat_lt}

-- an algebra's size, and what it answers on any two codes or on one
pub record Tables : Type 0 where
  pub size : ℕ
  pub sum : ℕ → ℕ → ℕ
  pub meet : ℕ → ℕ → ℕ
  pub negation : ℕ → ℕ

-- r where a is a code below k, else 0
abbrev pub within : ℕ → ℕ → ℕ → ℕ
within k a r = cond (nat_lt a k) r 0

-- an operation on two codes below k, 0 past them
abbrev pub square : ℕ → (ℕ → ℕ → ℕ) → ℕ → ℕ → ℕ
square k f a b = within k a (within k b (f a b))

-- an operation on a code below k, 0 past it
abbrev pub row : ℕ → (ℕ → ℕ) → ℕ → ℕ
row k f a = within k a (f a)

-- the tables of size k of three operations
abbrev pub bounded : ℕ → (ℕ → ℕ → ℕ) → (ℕ → ℕ → ℕ) → (ℕ → ℕ) → Tables
bounded k sum meet negation = record { size = k; sum = square k sum; meet = square k meet; negation = row k negation }
