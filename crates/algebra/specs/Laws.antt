-- The laws of an algebra.
use Rattle.std.specs.Prelude.{◌≡◌, ℕ, ◌<◌, ◌≤◌}
use Rattle.algebra.specs.Tables.{Tables}

-- the laws by which an operand that is 0, or two equal operands, settle an answer
pub record ShortCutLaws (t : Tables) : Type 0 where
  pub size_at_least_2 : 2 ≤ t.size
  pub size_at_most_16 : t.size ≤ 16
  pub sum_commutes : (a b : ℕ) → a < t.size → b < t.size → t.sum a b ≡ t.sum b a
  pub sum_with_itself_is_itself : (a : ℕ) → a < t.size → t.sum a a ≡ a
  pub sum_with_zero_is_the_other : (a : ℕ) → a < t.size → t.sum a 0 ≡ a
  pub sum_below_size : (a b : ℕ) → a < t.size → b < t.size → t.sum a b < t.size
  pub sum_zero_past_size_left : (a b : ℕ) → t.size ≤ a → t.sum a b ≡ 0
  pub sum_zero_past_size_right : (a b : ℕ) → t.size ≤ b → t.sum a b ≡ 0
  pub meet_commutes : (a b : ℕ) → a < t.size → b < t.size → t.meet a b ≡ t.meet b a
  pub meet_with_itself_is_itself : (a : ℕ) → a < t.size → t.meet a a ≡ a
  pub meet_with_zero_is_zero : (a : ℕ) → a < t.size → t.meet a 0 ≡ 0
  pub meet_below_size : (a b : ℕ) → a < t.size → b < t.size → t.meet a b < t.size
  pub meet_zero_past_size_left : (a b : ℕ) → t.size ≤ a → t.meet a b ≡ 0
  pub meet_zero_past_size_right : (a b : ℕ) → t.size ≤ b → t.meet a b ≡ 0
  pub negation_of_zero_is_zero : t.negation 0 ≡ 0
  pub negation_below_size : (a : ℕ) → a < t.size → t.negation a < t.size
  pub negation_zero_past_size : (a : ℕ) → t.size ≤ a → t.negation a ≡ 0

-- the laws by which a policy may be regrouped
pub record RegroupingLaws (t : Tables) : Type 0 where
  pub sum_associates : (a b c : ℕ) → a < t.size → b < t.size → c < t.size → t.sum (t.sum a b) c ≡ t.sum a (t.sum b c)
  pub negating_twice_gives_back : (a : ℕ) → a < t.size → t.negation (t.negation a) ≡ a
