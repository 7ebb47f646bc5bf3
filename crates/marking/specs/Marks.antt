-- Marking bytes, one a record.
use Rattle.std.specs.Prelude.{◌≡◌, ℕ, zero, suc, cond, List, ◌==◌, slice_index}

-- a record is live while its marking byte is 1
abbrev pub Marked : List ℕ → ℕ → Type 0
Marked marks r = slice_index marks r ≡ 1

-- how many of the first n records are live
abbrev pub tally : ℕ → List ℕ → ℕ
tally zero marks = 0
tally (suc n) marks = cond (slice_index marks n == 1) (suc (tally n marks)) (tally n marks)
