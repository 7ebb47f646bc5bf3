-- Names among names: where one stands, whether it is known, and that all are distinct.
use Rattle.std.proofs.Common.{◌≡◌, ℕ, zero, suc, ◌<◌, false, ◌≢◌, List, [], ◌∷◌, ◌++◌, length, get_or, Some, sym, ap, ◌∙◌, arith}
use lib.ListN.{length-map}
use Rattle.std.proofs.ByRecursion.{All-get_or, All-push}
use Rattle.std.proofs.lemmas.Bool.{both_ways, or_parts, cond-true, cond-false}
use Rattle.std.proofs.lemmas.List.{map-id}
use Rattle.fields.specs.Words.{equal}
use Rattle.fields.proofs.Naming.{equal_self, not_equal}
use Rattle.vocabulary.specs.Vocabulary.{Attribute, names_of, later, place, is_known, Distinct}
use Rattle.vocabulary.proofs.Spans.{name_stands, position_below}

-- among distinct names each is found where it stands, for those before it are others
pub place_at : (names : List (List ℕ)) (i : ℕ) → i < length names → Distinct names → place (get_or names i []) names ≡ Some i
place_at [] i h d = absurd (omega arith)
place_at (m ∷ ms) zero h d = cond-true (equal m m) (Some 0) (later (place m ms)) (equal_self m)
place_at (m ∷ ms) (suc i) h d =
    let n : List ℕ = get_or ms i [] in
    let q : n ≢ m = All-get_or (λ y. y ≢ m) ms i [] (omega arith) d.0 in
    cond-false (equal n m) (Some 0) (later (place n ms)) (not_equal n m q) ∙ ap later (place_at ms i (omega arith) d.1)

-- a place that is found is one in the list
pub place-below : (n : List ℕ) (names : List (List ℕ)) (i : ℕ) → place n names ≡ Some i → i < length names
place-below n names i e = position_below (equal n) names i (name_stands (λ m. m) n names ∙ ap (place n) (map-id names) ∙ e)

-- so an attribute that is found by name is one of the vocabulary
pub attribute_below : (v : List Attribute) (n : List ℕ) (i : ℕ) → Some i ≡ place n (names_of v) → i < length v
attribute_below v n i e =
    let below : i < length (names_of v) = place-below n (names_of v) i (sym e) in
    let same : length (names_of v) ≡ length v = simp length-map in
    omega arith

-- a name that is not known joins distinct names, for it differs from each
pub distinct_push : (names : List (List ℕ)) (n : List ℕ) → Distinct names → is_known n names ≡ false → Distinct (names ++ n ∷ [])
distinct_push [] n d e = (tt, tt)
distinct_push (m ∷ ms) n d e =
    let p = or_parts (equal n m) (is_known n ms) e in
    (All-push (λ y. y ≢ m) ms n d.0 (λ s. both_ways (equal n m) p.0 (ap (equal n) (sym s) ∙ equal_self n)), distinct_push ms n d.1 p.1)
