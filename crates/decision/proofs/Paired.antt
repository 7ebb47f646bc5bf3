-- Each two sheets are compared once.
use Rattle.std.proofs.Common.{◌≡◌, ℕ, zero, suc, ◌+◌, ◌*◌, ◌<◌, List, [], ◌∷◌, length, get_or, sym, refl, ap, subst, suc-mul, mul-suc, arith, length-append}
use mathlib.Core.List.Memᴰ
use mathlib.Core.List.{Memᴰ}
use Rattle.vocabulary.specs.Vocabulary.{Attribute}
use Rattle.decision.specs.Differing.{difference, against, differences_from}

module _ (v : List Attribute) where
  -- a sheet is compared with the k-th of those behind it, for it goes through all of them
  against-each : (i : ℕ) (s : List ℕ) (j : ℕ) (ts : List (List ℕ)) (k n : ℕ) → k < length ts → j + k ≡ n → Memᴰ (difference v i s n (get_or ts k [])) (against v i s j ts)
  against-each i s j [] k n h e = absurd (omega arith)
  against-each i s j (t ∷ ts) zero n h e = let q : n ≡ j = omega arith in Memᴰ.head (ap (λ m. difference v i s m t) q)
  against-each i s j (t ∷ ts) (suc k) n h e = Memᴰ.tail (against-each i s (suc j) ts k n (omega arith) (omega arith))

  -- and so is each of the sheets, of which the first has number o
  each-against-each : (o : ℕ) (ss : List (List ℕ)) (i j m n : ℕ) → i < j → j < length ss → o + i ≡ m → o + j ≡ n
      → Memᴰ (difference v m (get_or ss i []) n (get_or ss j [])) (differences_from v o ss)
  each-against-each o [] i j m n h l p q = absurd (omega arith)
  each-against-each o (s ∷ ss) zero zero m n h l p q = absurd (omega arith)
  each-against-each o (s ∷ ss) (suc i) zero m n h l p q = absurd (omega arith)
  each-against-each o (s ∷ ss) zero (suc j) m n h l p q =
      let e : m ≡ o = omega arith in
      subst (λ (x : ℕ). Memᴰ (difference v x s n (get_or ss j [])) (differences_from v o (s ∷ ss))) (sym e)
      (Memᴰ.append_left (differences_from v (suc o) ss) (against-each o s (suc o) ss j n (omega arith) (omega arith)))
  each-against-each o (s ∷ ss) (suc i) (suc j) m n h l p q =
      Memᴰ.append_right (against v o s (suc o) ss) (each-against-each (suc o) ss i j m n (omega arith) (omega arith) (omega arith) (omega arith))

  pub each_two : (ss : List (List ℕ)) (i j : ℕ) → i < j → j < length ss → Memᴰ (difference v i (get_or ss i []) j (get_or ss j [])) (differences_from v 0 ss)
  each_two ss i j h l = each-against-each 0 ss i j i j h l (omega arith) (omega arith)

  -- a sheet is compared as often as there are sheets behind it
  as_many_behind : (i : ℕ) (s : List ℕ) (j : ℕ) (ts : List (List ℕ)) → length (against v i s j ts) ≡ length ts
  as_many_behind i s j [] = refl
  as_many_behind i s j (t ∷ ts) = ap suc (as_many_behind i s (suc j) ts)

  -- twice the differences, and one for each sheet, make a square: it grows by an odd number with each sheet
  pub as_many_as_pairs : (o : ℕ) (ss : List (List ℕ)) → 2 * length (differences_from v o ss) + length ss ≡ length ss * length ss
  as_many_as_pairs o [] = refl
  as_many_as_pairs o (s ∷ ss) =
      let m : ℕ = length ss in
      let behind = as_many_behind o s (suc o) ss in
      let both = length-append (against v o s (suc o) ss) (differences_from v (suc o) ss) in
      let before = as_many_as_pairs (suc o) ss in
      omega (arith, behind, both, before, mul-suc (suc m) m, suc-mul m m)
