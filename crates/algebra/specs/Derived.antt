-- The two operators that every algebra has by its size alone.
use Rattle.std.specs.Prelude.{◌≡◌, ℕ, ◌<◌, ◌≤◌, cond, ◌==◌}
use Rattle.algebra.specs.Tables.{Tables, square}
use Rattle.algebra.specs.Laws.{ShortCutLaws}

-- a − b is a where b does not apply, else 0
abbrev pub minus : Tables → ℕ → ℕ → ℕ
minus t = square t.size (λ a b. cond (b == 0) a 0)

-- a > b is a unless a does not apply, then b
abbrev pub precedence : Tables → ℕ → ℕ → ℕ
precedence t = square t.size (λ a b. cond (a == 0) b a)

-- what the two operators answer where an operand is 0, two operands are equal, or one is no code
pub record DerivedLaws (t : Tables) : Type 0 where
  pub minus_below_size : (a b : ℕ) → minus t a b < t.size
  pub minus_itself_is_zero : (a : ℕ) → minus t a a ≡ 0
  pub minus_zero_is_itself : (a : ℕ) → a < t.size → minus t a 0 ≡ a
  pub zero_minus_is_zero : (a : ℕ) → minus t 0 a ≡ 0
  pub minus_zero_past_size_left : (a b : ℕ) → t.size ≤ a → minus t a b ≡ 0
  pub minus_zero_past_size_right : (a b : ℕ) → t.size ≤ b → minus t a b ≡ 0
  pub precedence_below_size : (a b : ℕ) → precedence t a b < t.size
  pub precedence_over_itself_is_itself : (a : ℕ) → a < t.size → precedence t a a ≡ a
  pub precedence_over_zero_is_itself : (a : ℕ) → a < t.size → precedence t a 0 ≡ a
  pub zero_over_another_is_the_other : (a : ℕ) → a < t.size → precedence t 0 a ≡ a
  pub precedence_zero_past_size_left : (a b : ℕ) → t.size ≤ a → precedence t a b ≡ 0
  pub precedence_zero_past_size_right : (a b : ℕ) → t.size ≤ b → precedence t a b ≡ 0

-- they hold of every algebra
abbrev pub DerivedLawsHold : Type 0
DerivedLawsHold = (t : Tables) → ShortCutLaws t → DerivedLaws t
