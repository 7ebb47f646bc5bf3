-- The algebra of permit, code 1, and deny, code 2.
use Rattle.std.specs.Prelude.{◌≡◌, ℕ, ◌≤◌, cond, List, [], ◌∷◌, ◌==◌, Result, MatchResult, slice_index, slice_index_or}
use Rattle.algebra.specs.Tables.{Tables, bounded}
use Rattle.algebra.specs.declared.permit_deny.Decision.{Decision}
use Rattle.algebra.specs.declared.permit_deny.Decision.TheVariants.{NotApplicable, Permit, Deny}
use Rattle.algebra.specs.declared.permit_deny.NoDecision.{NoDecision}

-- the code of a decision
abbrev pub code_of : Decision → ℕ
code_of NotApplicable = 0
code_of Permit = 1
code_of Deny = 2

-- a code is the one of the decision that comes back, or none has it
abbrev pub Decoded : ℕ → Result Decision NoDecision → Type 0
Decoded code r = MatchResult r (λ d. code_of d ≡ code) (λ e. (e.0 ≡ code) × (3 ≤ code))

-- what stands in a row and a column
abbrev pub at : List (List ℕ) → ℕ → ℕ → ℕ
at rows a b = slice_index (slice_index_or rows a []) b

-- in a sum permit wins
abbrev pub sum_rows : List (List ℕ)
sum_rows = (0 ∷ 1 ∷ 2 ∷ []) ∷ (1 ∷ 1 ∷ 1 ∷ []) ∷ (2 ∷ 1 ∷ 2 ∷ []) ∷ []

-- a meet is what both say
abbrev pub meet_rows : List (List ℕ)
meet_rows = (0 ∷ 0 ∷ 0 ∷ []) ∷ (0 ∷ 1 ∷ 0 ∷ []) ∷ (0 ∷ 0 ∷ 2 ∷ []) ∷ []

-- a negation exchanges permit and deny
abbrev pub exchanged : ℕ → ℕ
exchanged a = cond (a == 1) 2 (cond (a == 2) 1 0)

-- the algebra of permit and deny, of size 3
abbrev pub permit_deny : Tables
permit_deny = bounded 3 (at sum_rows) (at meet_rows) exchanged
