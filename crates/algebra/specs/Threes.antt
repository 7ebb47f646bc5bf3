-- The sum of three codes.
use Rattle.std.specs.Prelude.{◌≡◌, ℕ}
use Rattle.algebra.specs.Tables.{Tables, within}

-- r where three codes are below k, else 0
abbrev pub within_all : ℕ → ℕ → ℕ → ℕ → ℕ → ℕ
within_all k a b c r = within k a (within k b (within k c r))

-- the sum of three codes, the first two first
abbrev pub sum_of_three : Tables → ℕ → ℕ → ℕ → ℕ
sum_of_three t a b c = within_all t.size a b c (t.sum (t.sum a b) c)

-- r is the sum of a, b and c in every grouping and order
pub record SumOfThree (t : Tables) (a b c r : ℕ) : Type 0 where
  pub first_two_summed_first : r ≡ sum_of_three t a b c
  pub last_two_summed_first : r ≡ within_all t.size a b c (t.sum a (t.sum b c))
  pub first_two_exchanged : r ≡ sum_of_three t b a c
  pub last_two_exchanged : r ≡ sum_of_three t a c b
