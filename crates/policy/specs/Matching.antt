-- Where a rule matches.
use Rattle.std.specs.Prelude.{◌≡◌, ℕ, ◌<◌, true, ◌⊎◌, List, [], length, slice_index, slice_index_or}
use mathlib.Core.List.{Memᴰ}
use Rattle.policy.specs.Rules.{matches}

-- no cell is named, or this one is
abbrev pub Allowed : List ℕ → ℕ → Type 0
Allowed ds c = (ds ≡ []) ⊎ Memᴰ c ds

-- at each attribute the cell is allowed
abbrev pub EachAllowed : List (List ℕ) → List ℕ → Type 0
EachAllowed named cells = (i : ℕ) → i < length named → i < length cells → Allowed (slice_index_or named i []) (slice_index cells i)

-- a rule matches at cells exactly where each of them is allowed
pub record MatchesAllowed (named : List (List ℕ)) (cells : List ℕ) : Type 0 where
  pub what_matches_is_allowed : matches named cells ≡ true → EachAllowed named cells
  pub what_is_allowed_matches : EachAllowed named cells → matches named cells ≡ true

-- whatever a rule names, and at any cells
abbrev pub RuleMatchesWhereEachCellIsAllowed : Type 0
RuleMatchesWhereEachCellIsAllowed = (named : List (List ℕ)) (cells : List ℕ) → MatchesAllowed named cells
