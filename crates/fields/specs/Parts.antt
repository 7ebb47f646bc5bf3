-- What borrowed parts hold.
use Rattle.std.specs.Prelude.{ℕ, List, ℤ, Some, None, Option}
use Rattle.std.specs.Borrow.{Bor}
use Rattle.fields.specs.Words.{numbers_of}

-- a number stands for itself
abbrev pub itself : ℕ → ℕ
itself n = n

-- the bytes that are borrowed
abbrev pub list_now : Bor (List ℕ) → List ℕ
list_now r = r.now

-- the numbers in the bytes that are borrowed
abbrev pub numbers_now : Bor (List ℕ) → List ℤ
numbers_now r = numbers_of r.now

-- the bytes of both parts that are borrowed
abbrev pub both_now : Bor (List ℕ) × Bor (List ℕ) → List ℕ × List ℕ
both_now x = (x.0.now, x.1.now)

-- the bytes of both parts, where there are two
abbrev pub pair_now : Option (Bor (List ℕ) × Bor (List ℕ)) → Option (List ℕ × List ℕ)
pair_now None = None
pair_now (Some x) = Some (both_now x)
