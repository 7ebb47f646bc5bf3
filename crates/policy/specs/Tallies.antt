-- The code's tally, in the words of the walk.
use Rattle.std.specs.Prelude.{ℕ, false, Some, None}
use Rattle.algebra.specs.Tables.{Tables}
use Rattle.policy.specs.Walking as walked
use Rattle.policy.specs.declared.tally.Tally.{Tally}

-- what the code has tallied
abbrev pub tally_of : Tally → walked.Tally
tally_of y = elim y.value [ None ↦ walked.no_tally | Some d ↦ record { none = false; value = d } ]

-- one more rule matches
abbrev pub with_one : Tables → ℕ → walked.Tally → ℕ → walked.Tally
with_one t w y d = record { none = false; value = walked.tallied t w y d }
