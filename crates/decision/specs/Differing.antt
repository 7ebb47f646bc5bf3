-- At how many grid numbers policies decide differently.
use Rattle.std.specs.Prelude.{◌≡◌, ℕ, zero, suc, ◌+◌, ◌*◌, ◌<◌, Bool, cond, not, List, [], ◌∷◌, ◌++◌, length, ◌==◌, slice_index_or}
use mathlib.Core.List.{Memᴰ}
use Rattle.algebra.specs.PermitDeny.{permit_deny}
use Rattle.vocabulary.specs.Grid.{grid}
use Rattle.vocabulary.specs.Vocabulary.{Attribute, shape_of}
use Rattle.policy.specs.Sheets.{sheet_meaning}

-- what a policy sheet decides at a grid number, under permit and deny
abbrev pub decision_at : List Attribute → List ℕ → ℕ → ℕ
decision_at v sheet g = (sheet_meaning permit_deny v sheet).decision g

-- two policies decide differently at a number
abbrev pub differ_at : (ℕ → ℕ) → (ℕ → ℕ) → ℕ → Bool
differ_at d e g = not (d g == e g)

-- at how many numbers below n two policies decide differently
abbrev pub how_many_differ : (ℕ → ℕ) → (ℕ → ℕ) → ℕ → ℕ
how_many_differ d e zero = 0
how_many_differ d e (suc n) = how_many_differ d e n + cond (differ_at d e n) 1 0

-- two sheets by their numbers, and at how many grid numbers they decide differently
pub record Difference : Type 0 where
  pub first : ℕ
  pub second : ℕ
  pub numbers : ℕ

-- the difference of sheet i and sheet j
abbrev pub difference : List Attribute → ℕ → List ℕ → ℕ → List ℕ → Difference
difference v i s j t = record { first = i; second = j; numbers = how_many_differ (decision_at v s) (decision_at v t) (grid (shape_of v)) }

-- sheet i against those behind it, of which the first has number j
abbrev pub against : List Attribute → ℕ → List ℕ → ℕ → List (List ℕ) → List Difference
against v i s j [] = []
against v i s j (t ∷ ts) = difference v i s j t ∷ against v i s (suc j) ts

-- each sheet, of which the first has number i, against those behind it
abbrev pub differences_from : List Attribute → ℕ → List (List ℕ) → List Difference
differences_from v i [] = []
differences_from v i (s ∷ ss) = against v i s (suc i) ss ++ differences_from v (suc i) ss

-- the differences are those of each two sheets: all of them are there, and there are no more than pairs
pub record OfEachTwo (v : List Attribute) (ss : List (List ℕ)) : Type 0 where
  pub each_two_are_compared : (i j : ℕ) → i < j → j < length ss → Memᴰ (difference v i (slice_index_or ss i []) j (slice_index_or ss j [])) (differences_from v 0 ss)
  pub as_many_as_pairs : 2 * length (differences_from v 0 ss) + length ss ≡ length ss * length ss

-- whatever the vocabulary and the sheets
abbrev pub EachTwoSheetsAreComparedOnce : Type 0
EachTwoSheetsAreComparedOnce = (v : List Attribute) (ss : List (List ℕ)) → OfEachTwo v ss

-- two sheets differ at no grid number exactly where they decide alike at every one
pub record Alike (v : List Attribute) (s t : List ℕ) : Type 0 where
  pub none_differ_where_all_are_alike : ((g : ℕ) → g < grid (shape_of v) → decision_at v s g ≡ decision_at v t g) → how_many_differ (decision_at v s) (decision_at v t) (grid (shape_of v)) ≡ 0
  pub all_are_alike_where_none_differ : how_many_differ (decision_at v s) (decision_at v t) (grid (shape_of v)) ≡ 0 → (g : ℕ) → g < grid (shape_of v) → decision_at v s g ≡ decision_at v t g

-- whatever the vocabulary and the sheets
abbrev pub DifferNowhereWhereAlike : Type 0
DifferNowhereWhereAlike = (v : List Attribute) (s t : List ℕ) → Alike v s t
