-- Names and numbers, as they stand in the content of a field.
use Rattle.std.specs.Prelude.{ℕ, suc, ◌+◌, ◌*◌, ◌/◌, ◌%◌, Bool, true, cond, ◌&&◌, ◌||◌, List, [], ◌∷◌, length, take, drop, ℤ, Some, None, Option, ◌==◌, int_lt, nat_le, nat_lt, slice_index}
use Rattle.std.specs.Int.{w32}
use Rattle.std.specs.List.{list_all}
use Rattle.std.specs.Str.{bytes_eq}
use Rattle.std.proofs.Common.{to_z, of_z}

-- a small letter, a digit or the hyphen
abbrev pub name_byte : ℕ → Bool
name_byte b = (nat_le 97 b && nat_le b 122) || ((nat_le 48 b && nat_le b 57) || b == 45)

-- every byte may stand in a name
abbrev pub name_bytes : List ℕ → Bool
name_bytes bs = list_all name_byte bs

-- a name has 1 to 16 of these bytes
abbrev pub is_name : List ℕ → Bool
is_name bs = nat_lt 0 (length bs) && (nat_le (length bs) 16 && name_bytes bs)

-- two names are the same when all their bytes are
abbrev pub equal : List ℕ → List ℕ → Bool
equal xs ys = bytes_eq xs ys

-- a signed number of 32 bits, two's complement, high byte first
abbrev pub number_of : List ℕ → ℤ
number_of bs = to_z w32 (slice_index bs 0 * 16777216 + slice_index bs 1 * 65536 + slice_index bs 2 * 256 + slice_index bs 3)

-- the four bytes of a number
abbrev pub number_bytes : ℤ → List ℕ
number_bytes z = (of_z w32 z / 16777216) ∷ (of_z w32 z / 65536 % 256) ∷ (of_z w32 z / 256 % 256) ∷ (of_z w32 z % 256) ∷ []

-- numbers that stand one after the other, four bytes each
abbrev pub numbers_of : List ℕ → List ℤ
numbers_of [] = []
numbers_of (a ∷ []) = []
numbers_of (a ∷ b ∷ []) = []
numbers_of (a ∷ b ∷ c ∷ []) = []
numbers_of (a ∷ b ∷ c ∷ d ∷ bs) = number_of (a ∷ b ∷ c ∷ d ∷ []) ∷ numbers_of bs

-- each number is below the next one
abbrev pub rises : List ℤ → Bool
rises [] = true
rises (x ∷ []) = true
rises (x ∷ y ∷ zs) = int_lt x y && rises (y ∷ zs)

-- how many bytes stand before the first 0x3D, the sign '='
abbrev pub before : List ℕ → ℕ
before [] = 0
before (b ∷ bs) = cond (b == 0x3D) 0 (suc (before bs))

-- the name before the first 0x3D and what stands after it; none without a proper name or a 0x3D
abbrev pub sides : List ℕ → Option (List ℕ × List ℕ)
sides c = cond (nat_lt (before c) (length c) && is_name (take (before c) c)) (Some (take (before c) c, drop (suc (before c)) c)) None
