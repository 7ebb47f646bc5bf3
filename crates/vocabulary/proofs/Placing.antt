-- When two numbers are the same, and where one stands among cuts.
use Rattle.std.proofs.Common.{◌≡◌, ℕ, ◌<◌, true, List, length, ℤ, pos, negsuc, Some, refl, ap, ◌∙◌, arith, eq-eqb}
use Rattle.std.proofs.lemmas.Bool.{eqb-true}
use Rattle.vocabulary.specs.Lookup.{same_number, cut_place}
use Rattle.vocabulary.proofs.Spans.{cut_stands, position_below}

-- a number is the same as itself
same-itself : (x : ℤ) → same_number x x ≡ true
same-itself (pos a) = eq-eqb a a refl
same-itself (negsuc a) = eq-eqb a a refl

-- and as no other
same_is : (x z : ℤ) → same_number x z ≡ true → x ≡ z
same_is (pos a) (pos b) t = ap pos (eqb-true a b t)
same_is (pos a) (negsuc b) t = let e : ◌≡◌ {A = ℕ} 0 1 = cc in absurd (omega arith)
same_is (negsuc a) (pos b) t = let e : ◌≡◌ {A = ℕ} 0 1 = cc in absurd (omega arith)
same_is (negsuc a) (negsuc b) t = ap negsuc (eqb-true a b t)

-- a cut that is found is among the cuts
pub cut_below : (zs : List ℤ) (x : ℤ) (i : ℕ) → cut_place x zs ≡ Some i → i < length zs
cut_below zs x i e = position_below (λ z. same_number x z) zs i (cut_stands x zs ∙ e)
