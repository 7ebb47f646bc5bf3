-- Numbers of 32 bits as bytes, there and back, and numbers that rise.
use Rattle.std.proofs.Common.{◌≡◌, ℕ, zero, suc, ◌+◌, ◌-◌, ◌*◌, ◌/◌, ◌%◌, ◌^◌, ◌<◌, Bool, true, false, ltb, List, [], ◌∷◌, ◌++◌, length, get_or, ℤ, pos, negsuc, refl, ap, ◌∙◌, ⊎_elim, arith, w32, SFits, to_z, of_z}
use mir.Val.{sel}
use lib.Signed.{lt_z}
use Rattle.std.specs.List.{AllByRecursion}
use Rattle.std.proofs.ByRecursion.{All-get_or, All-weaker}
use Rattle.std.proofs.lemmas.Int.{to_z-of_z}
use Rattle.std.proofs.lemmas.Bool.{both_ways, and_parts, ltb-true, ltb-false, lt-ltb, cases_Bool}
use Rattle.fields.specs.Words.{number_of, number_bytes, numbers_of, rises}

-- ---- numbers as bytes
-- four bytes make up their number again, for each is a digit to the base 256
four : (n : ℕ) → n / 16777216 * 16777216 + n / 65536 % 256 * 65536 + n / 256 % 256 * 256 + n % 256 ≡ n
four n = omega arith

-- the bytes of a number are read as this number, whatever follows
pub number_back : (z : ℤ) (t : List ℕ) → SFits w32 z → number_of (number_bytes z ++ t) ≡ z
number_back z t f = ap (to_z w32) (four (of_z w32 z)) ∙ to_z-of_z w32 z f

-- any number of bits that is read as a signed one fits, for the upper half is read as negative
pub to_z_fits : (n : ℕ) → SFits w32 (to_z w32 n)
to_z_fits n = go (ltb n (2 ^ 31)) refl
  where
    go : (b : Bool) → ltb n (2 ^ 31) ≡ b → SFits w32 (sel b (pos n) (negsuc (2 ^ 32 - suc n)))
    go true e = record { sfits = ltb-true n (2 ^ 31) e }
    go false e = let h = ltb-false n (2 ^ 31) e in record { sfits = omega arith }

-- so does what is read from any bytes
pub number_fits : (bs : List ℕ) → SFits w32 (number_of bs)
number_fits bs = to_z_fits (get_or bs 0 0 * 16777216 + get_or bs 1 0 * 65536 + get_or bs 2 0 * 256 + get_or bs 3 0)

-- and each of the numbers that stand one after the other
pub numbers_fit : (bs : List ℕ) → AllByRecursion (SFits w32) (numbers_of bs)
numbers_fit [] = tt
numbers_fit (a ∷ []) = tt
numbers_fit (a ∷ b ∷ []) = tt
numbers_fit (a ∷ b ∷ c ∷ []) = tt
numbers_fit (a ∷ b ∷ c ∷ d ∷ bs) = (number_fits (a ∷ b ∷ c ∷ d ∷ []), numbers_fit bs)

-- there is a number for each four bytes
pub length_numbers : (bs : List ℕ) → length (numbers_of bs) ≡ length bs / 4
length_numbers [] = refl
length_numbers (a ∷ []) = refl
length_numbers (a ∷ b ∷ []) = refl
length_numbers (a ∷ b ∷ c ∷ []) = refl
length_numbers (a ∷ b ∷ c ∷ d ∷ bs) = ap suc (length_numbers bs) ∙ omega arith

-- bits of a number that fits stay below 2 to the 32
pub bits_below : (z : ℤ) → SFits w32 z → of_z w32 z < 4294967296
bits_below (pos n) f = let h = f.sfits in omega arith
bits_below (negsuc n) f = let h = f.sfits in omega arith

-- so the bytes of a number are bytes
pub number_octets : (z : ℤ) → SFits w32 z → AllByRecursion (λ b. b < 256) (number_bytes z)
number_octets z f = let h = bits_below z f in (omega arith, (omega arith, (omega arith, (omega arith, tt))))

-- ---- order
-- no number is below itself, on either side of zero
pub not_below-itself : (x : ℤ) → lt_z x x ≡ true → ⊥
not_below-itself (pos a) t = let h = ltb-true a a t in omega arith
not_below-itself (negsuc a) t = let h = ltb-true a a t in omega arith

-- what is below a lower number is below, sign by sign
pub lt_z_trans : (a b c : ℤ) → lt_z a b ≡ true → lt_z b c ≡ true → lt_z a c ≡ true
lt_z_trans (pos a) (pos b) (pos c) p q = let h = ltb-true a b p in let i = ltb-true b c q in lt-ltb a c (omega arith)
lt_z_trans (pos a) (pos b) (negsuc c) p q = q
lt_z_trans (pos a) (negsuc b) c p q = absurd (both_ways false refl p)
lt_z_trans (negsuc a) (pos b) (pos c) p q = refl
lt_z_trans (negsuc a) (pos b) (negsuc c) p q = absurd (both_ways false refl q)
lt_z_trans (negsuc a) (negsuc b) (pos c) p q = refl
lt_z_trans (negsuc a) (negsuc b) (negsuc c) p q = let h = ltb-true b a p in let i = ltb-true c b q in lt-ltb c a (omega arith)

-- of two numbers only one can be below the other, for none is below itself
pub not_below : (x y : ℤ) → lt_z y x ≡ true → lt_z x y ≡ false
not_below x y h = ⊎_elim (λ t. absurd (not_below-itself x (lt_z_trans x y x t h))) (λ t. t) (cases_Bool (lt_z x y))

-- ---- numbers that rise
-- without the first they rise too
pub rises-rest : (x : ℤ) (zs : List ℤ) → rises (x ∷ zs) ≡ true → rises zs ≡ true
rises-rest x [] r = refl
rises-rest x (y ∷ zs) r = (and_parts (lt_z x y) (rises (y ∷ zs)) r).1

-- the first is below all that follow, by transitivity
pub rises_above : (x : ℤ) (zs : List ℤ) → rises (x ∷ zs) ≡ true → AllByRecursion (λ y. lt_z x y ≡ true) zs
rises_above x [] r = tt
rises_above x (y ∷ zs) r =
    let p = and_parts (lt_z x y) (rises (y ∷ zs)) r in
    (p.0, All-weaker (λ z. lt_z y z ≡ true) (λ z. lt_z x z ≡ true) (λ z t. lt_z_trans x y z p.0 t) zs (rises_above y zs p.1))

-- a number is below each later one
pub rises-later : (zs : List ℤ) (i j : ℕ) → i < j → j < length zs → rises zs ≡ true → lt_z (get_or zs i (pos 0)) (get_or zs j (pos 0)) ≡ true
rises-later [] i j h l r = absurd (omega arith)
rises-later (x ∷ zs) i zero h l r = absurd (omega arith)
rises-later (x ∷ zs) zero (suc j) h l r = All-get_or (λ y. lt_z x y ≡ true) zs j (pos 0) (omega arith) (rises_above x zs r)
rises-later (x ∷ zs) (suc i) (suc j) h l r = rises-later zs i j (omega arith) (omega arith) (rises-rest x zs r)
