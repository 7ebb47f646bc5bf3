-- Names by their spans, and looking for a name or a number.
use Rattle.std.proofs.Common.{◌≡◌, ℕ, zero, suc, ◌+◌, ◌-◌, ◌<◌, min, Bool, true, false, cond, not, ltb, List, [], ◌∷◌, map, length, take, drop, ℤ, Some, None, Option, position, refl, ap, ◌∙◌, arith}
use Rattle.std.specs.List.{position_or_len}
use Rattle.std.proofs.lemmas.List.{take_rest}
use Rattle.std.proofs.lemmas.Bool.{cond-true, cond-false, lt-ltb, ltb-true}
use Rattle.std.proofs.lemmas.Bool.Decides.{nat_tests}
use Rattle.fields.specs.Words.{equal}
use Rattle.vocabulary.specs.Vocabulary.{place, later}
use Rattle.vocabulary.specs.Lookup.{same_number, cut_place}

take_none : {X : Type 0} (n : ℕ) → ◌≡◌ {A = List X} [] (take n [])
take_none zero = refl
take_none (suc n) = refl

drop-none : {X : Type 0} (n : ℕ) → ◌≡◌ {A = List X} [] (drop n [])
drop-none zero = refl
drop-none (suc n) = refl

-- taking no more than there is takes the same
pub take_min : {X : Type 0} (n : ℕ) (xs : List X) → take (min (length xs) n) xs ≡ take n xs
take_min n [] = let e : min 0 n ≡ 0 = omega arith in ap (λ (m : ℕ). take m []) e ∙ take_none n
take_min zero (x ∷ xs) = let e : min (length (x ∷ xs)) 0 ≡ 0 = omega arith in ap (λ (m : ℕ). take m (x ∷ xs)) e
take_min (suc n) (x ∷ xs) =
    let e : min (length (x ∷ xs)) (suc n) ≡ suc (min (length xs) n) = omega arith in
    ap (λ (m : ℕ). take m (x ∷ xs)) e ∙ ap (λ r. x ∷ r) (take_min n xs)

-- dropping no more than there is drops the same
pub drop_min : {X : Type 0} (n : ℕ) (xs : List X) → drop (min (length xs) n) xs ≡ drop n xs
drop_min n [] = let e : min 0 n ≡ 0 = omega arith in ap (λ (m : ℕ). drop m []) e ∙ drop-none n
drop_min zero (x ∷ xs) = let e : min (length (x ∷ xs)) 0 ≡ 0 = omega arith in ap (λ (m : ℕ). drop m (x ∷ xs)) e
drop_min (suc n) (x ∷ xs) =
    let e : min (length (x ∷ xs)) (suc n) ≡ suc (min (length xs) n) = omega arith in
    ap (λ (m : ℕ). drop m (x ∷ xs)) e ∙ drop_min n xs

-- so a span that passes the end gives what there is
pub span_within : (bs : List ℕ) (from len a b : ℕ) → a ≡ min (length bs) from → b ≡ min (length (take (length bs - a) (drop a bs))) len
    → take b (take (length bs - a) (drop a bs)) ≡ take len (drop from bs)
span_within bs from len a b ea eb =
    let rest : take (length bs - a) (drop a bs) ≡ drop from bs = take_rest bs a ∙ ap (λ (m : ℕ). drop m bs) ea ∙ drop_min from bs in
    ap (λ (m : ℕ). take m (take (length bs - a) (drop a bs))) eb ∙ take_min len (take (length bs - a) (drop a bs)) ∙ ap (take len) rest

-- ---- the first item that passes a test
-- the first item passes, or it is looked for behind it
pub position_cons : {T : Type 0} (p : T → Bool) (x : T) (xs : List T) → position p (x ∷ xs) ≡ cond (p x) (Some 0) (later (position p xs))
position_cons p x xs = go (p x) (position_or_len p xs) (length xs)
  where
    behind : (t : Bool) (i n : ℕ) → ltb i n ≡ t → cond {A = Option ℕ} (ltb (1 + i) (suc n)) (Some (1 + i)) None ≡ later (cond t (Some i) None)
    behind true i n e = let l : ltb (1 + i) (suc n) ≡ true = grind (arith, nat_tests) in let s : 1 + i ≡ suc i = omega arith in cond-true _ _ _ l ∙ ap Some s
    behind false i n e = let l : ltb (1 + i) (suc n) ≡ false = grind (arith, nat_tests) in cond-false _ _ _ l

    go : (t : Bool) (i n : ℕ) → cond {A = Option ℕ} (ltb (cond (not t) (1 + i) 0) (suc n)) (Some (cond (not t) (1 + i) 0)) None ≡ cond t (Some 0) (later (cond (ltb i n) (Some i) None))
    go true i n = cond-true _ _ _ (lt-ltb 0 (suc n) (omega arith))
    go false i n = behind (ltb i n) i n refl

-- a name stands where the test for it first passes
pub name_stands : {T : Type 0} (called : T → List ℕ) (n : List ℕ) (items : List T) → position (λ x. equal n (called x)) items ≡ place n (map called items)
name_stands called n [] = refl
name_stands called n (x ∷ xs) = position_cons (λ x. equal n (called x)) x xs ∙ ap (λ o. cond (equal n (called x)) (Some 0) (later o)) (name_stands called n xs)

-- and a cut
pub cut_stands : (x : ℤ) (zs : List ℤ) → position (λ z. same_number x z) zs ≡ cut_place x zs
cut_stands x [] = refl
cut_stands x (z ∷ zs) = position_cons (λ z. same_number x z) z zs ∙ ap (λ o. cond (same_number x z) (Some 0) (later o)) (cut_stands x zs)

-- what is found is one of the items
pub position_below : {T : Type 0} (p : T → Bool) (xs : List T) (i : ℕ) → position p xs ≡ Some i → i < length xs
position_below p xs i e = go (ltb (position_or_len p xs) (length xs)) refl e
  where
    go : (t : Bool) → ltb (position_or_len p xs) (length xs) ≡ t → ◌≡◌ {A = Option ℕ} (cond t (Some (position_or_len p xs)) None) (Some i) → i < length xs
    go true t d = let l = ltb-true _ _ t in let s : position_or_len p xs ≡ i = cc in omega arith
    go false t d = let z : ◌≡◌ {A = ℕ} 0 1 = cc in absurd (omega arith)
