-- The four ways to combine decisions, by their numbers.
use Rattle.std.specs.Prelude.{◌≡◌, ℕ, Bool, false, true, ◌&&◌, Ok, Err, Result, nat_le}
use Rattle.fields.specs.declared.way.Way.{Way}
use Rattle.fields.specs.declared.way.Way.TheVariants.{First, Sum, Only, OppositeSum}
use Rattle.fields.specs.declared.way.NoSuchWay.{NoSuchWay}

-- the number of a way
abbrev pub way_number : Way → ℕ
way_number First = 1
way_number Sum = 2
way_number Only = 3
way_number OppositeSum = 4

-- the numbers from 1 to 4 are those of ways
abbrev pub is_way : ℕ → Bool
is_way n = nat_le 1 n && nat_le n 4

-- the way of a number, or none has it
abbrev pub HasWay : ℕ → Result Way NoSuchWay → Type 0
HasWay n (Ok w) = (way_number w ≡ n) × (is_way n ≡ true)
HasWay n (Err e) = is_way n ≡ false
