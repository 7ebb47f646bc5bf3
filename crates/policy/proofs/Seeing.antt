-- What a walk knows of the cells.
use Rattle.std.proofs.Common.{◌≡◌, ℕ, zero, suc, ◌+◌, ◌-◌, ◌<◌, ◌≤◌, Bool, true, false, not, ◌&&◌, ◌||◌, eqb, ltb, leb, List, [], ◌∷◌, length, get_or, Some, None, Ok, Err, Option, Result, IfOk, sym, refl, ap, ◌∙◌, arith, ltb-true}
use Rattle.std.specs.Bool.{then_some}
use Rattle.std.specs.List.{list_all}
use Rattle.std.specs.Option.{ok_or}
use Rattle.std.proofs.lemmas.Bool.Decides.{nat_tests}
use Rattle.refusal.specs.Answers.{Answer, given}
use Rattle.fields.specs.Fields.{when}
use Rattle.fields.proofs.Answering.{same_value, given_value}
use Rattle.vocabulary.specs.Vocabulary.{Kind, Attribute, names_of, place}
use Rattle.vocabulary.specs.Lookup.{attribute_at}
use Rattle.vocabulary.proofs.Known.{attribute_below}
use Rattle.policy.specs.Rules.{is_among}
use Rattle.policy.specs.Sheets.{cells_from, between}
use Rattle.policy.specs.Walking.{Tally, Seen, all_met, Walked, judging, noted, enter_condition}
use Rattle.policy.specs.Walks.{among, missed, meets}

-- ---- attributes that are named
-- all are met where none is missed
pub none_is_missed : (xs : Seen) → list_all (λ o. not (missed o)) xs ≡ all_met xs
none_is_missed [] = refl
none_is_missed (None ∷ xs) = none_is_missed xs
none_is_missed (Some true ∷ xs) = none_is_missed xs
none_is_missed (Some false ∷ xs) = refl

-- an attribute that is found by name is below any number that the attributes do not pass
pub found_below : (v : List Attribute) (n : List ℕ) (m : ℕ) → length v ≤ m → (o : Option ℕ) {E : Type 0} (e : E) (r : Result ℕ E) → r ≡ ok_or o e → o ≡ place n (names_of v) → IfOk r (λ i. i < m)
found_below v n m le None e (Ok i) q p = let z : ◌≡◌ {A = ℕ} 0 1 = cc in absurd (omega arith)
found_below v n m le (Some j) e (Ok i) q p =
    let same : i ≡ j = cc in
    let below = attribute_below v n j p in
    omega arith
found_below v n m le o e (Err y) q p = tt

-- ---- ranges
-- a cell is among n from i on where it is not below i and below i + n
among-from : (c i n : ℕ) → is_among c (cells_from i n) ≡ (leb i c && ltb c (i + n))
among-from c i zero = grind (arith, nat_tests)
among-from c i (suc n) = ap (λ b. eqb c i || b) (among-from c (suc i) n) ∙ grind (arith, nat_tests)

-- so it is among those from one cut up to another where it lies between their places, if these are in order
pub among_range : (c i j : ℕ) (b : Bool) → (leb i c && ltb c j) ≡ b → then_some (ltb i j) b ≡ among c (between (Some i) (Some j))
among_range c i j b e = go (ltb i j) (ltb-true i j)
  where
    go : (t : Bool) → (t ≡ true → i < j) → then_some t b ≡ among c (when t (cells_from i (j - i)))
    go false f = refl
    go true f =
        let lt = f refl in
        ap Some (sym e ∙ sym (among-from c i (j - i) ∙ ap (λ (k : ℕ). leb i c && ltb c k) (omega arith)))

-- ---- conditions
-- a condition on an attribute that is known is noted by whether it names the cell
pub condition_noted : (v : List Attribute) (cells : List ℕ) (at w : ℕ) (y : Tally) (d : ℕ) (seen : Seen) (a : List ℕ) (named : Kind → Option (List ℕ)) (i : ℕ)
    → Ok i ≡ given (place a (names_of v)) 23 at (λ i. Ok i)
    → given (among (get_or cells i 0) (named (attribute_at v i).kind)) 24 at (λ b. Ok (judging w y d (meets seen i b))) ≡ enter_condition v cells at (judging w y d seen) a named
condition_noted v cells at w y d seen a named i e =
    let x = given_value (place a (names_of v)) 23 at (λ i. Ok i) i (sym e) in
    let there = x.1 ∙ ap Some (same_value x.0 i x.2) in
    by_cells (named (attribute_at v i).kind) ∙ sym (ap (λ o. given o 23 at noting_at) there)
  where
    noting_at : ℕ → Answer Walked
    noting_at j = given (named (attribute_at v j).kind) 24 at (λ cs. Ok (judging w y d (noted cells seen j cs)))

    by_cells : (o : Option (List ℕ)) → given (among (get_or cells i 0) o) 24 at (λ b. Ok (judging w y d (meets seen i b))) ≡ given o 24 at (λ cs. Ok (judging w y d (noted cells seen i cs)))
    by_cells None = refl
    by_cells (Some cs) = refl
