-- A rule matches exactly where each cell is allowed.
use Rattle.std.proofs.Common.{◌≡◌, ℕ, zero, suc, true, false, eqb, List, [], ◌∷◌, length, refl, ap, inl, inr, ⊎_elim, arith}
use mathlib.Core.List.Memᴰ
use mathlib.Core.List.{Memᴰ}
use Rattle.std.proofs.lemmas.Bool.{both_ways, eqb-true, eq-eqb, or_cases, or_left, or_right, and_parts, and_from}
use Rattle.policy.specs.Rules.{is_among, allows, matches}
use Rattle.policy.specs.Matching.{Allowed, EachAllowed, RuleMatchesWhereEachCellIsAllowed}

-- a cell that the test finds is one of the list, the one at which the test stops
pub found_is_named : (c : ℕ) (ds : List ℕ) → is_among c ds ≡ true → Memᴰ c ds
found_is_named c [] e = absurd (both_ways false refl e)
found_is_named c (d ∷ ds) e =
    ⊎_elim (λ t. Memᴰ.head (eqb-true c d t)) (λ t. Memᴰ.tail (found_is_named c ds t)) (or_cases (eqb c d) (is_among c ds) e)

-- a cell of the list is found, since the test goes through all of it
pub named_is_found : (c : ℕ) (ds : List ℕ) → Memᴰ c ds → is_among c ds ≡ true
named_is_found c [] m = absurd (Memᴰ.not-nil m)
named_is_found c (d ∷ ds) m =
    ⊎_elim (λ e. or_left (eqb c d) (is_among c ds) (eq-eqb c d e)) (λ n. or_right (eqb c d) (is_among c ds) (named_is_found c ds n)) (Memᴰ.cases_cons m)

-- what the test allows is allowed: no cell is named, or it is found
pub passes_is_allowed : (ds : List ℕ) (c : ℕ) → allows ds c ≡ true → Allowed ds c
passes_is_allowed [] c e = inl refl
passes_is_allowed (d ∷ ds) c e = inr (found_is_named c (d ∷ ds) e)

-- what is allowed passes
pub allowed-passes : (ds : List ℕ) (c : ℕ) → Allowed ds c → allows ds c ≡ true
allowed-passes [] c a = refl
allowed-passes (d ∷ ds) c a =
    ⊎_elim (λ (e : d ∷ ds ≡ []). absurd (let z : length (d ∷ ds) ≡ 0 = ap length e in omega arith)) (λ (m : Memᴰ c (d ∷ ds)). named_is_found c (d ∷ ds) m) a

-- attribute by attribute: the first is allowed, and so are the later ones
pub matching_is_allowed : (named : List (List ℕ)) (cells : List ℕ) → matches named cells ≡ true → EachAllowed named cells
matching_is_allowed [] cells e i h k = absurd (omega arith)
matching_is_allowed (ds ∷ named) [] e i h k = absurd (omega arith)
matching_is_allowed (ds ∷ named) (c ∷ cells) e zero h k = passes_is_allowed ds c (and_parts (allows ds c) (matches named cells) e).0
matching_is_allowed (ds ∷ named) (c ∷ cells) e (suc i) h k =
    matching_is_allowed named cells (and_parts (allows ds c) (matches named cells) e).1 i (omega arith) (omega arith)

-- attribute by attribute: the first passes, and so do the later ones
pub allowed_is_matching : (named : List (List ℕ)) (cells : List ℕ) → EachAllowed named cells → matches named cells ≡ true
allowed_is_matching [] cells each = refl
allowed_is_matching (ds ∷ named) [] each = refl
allowed_is_matching (ds ∷ named) (c ∷ cells) each =
    and_from (allows ds c) (matches named cells) (allowed-passes ds c (each 0 (omega arith) (omega arith)))
    (allowed_is_matching named cells (λ i h k. each (suc i) (omega arith) (omega arith)))

-- both ways, attribute by attribute
pub matches_where_allowed : RuleMatchesWhereEachCellIsAllowed
matches_where_allowed named cells = record {
  what_matches_is_allowed = matching_is_allowed named cells;
  what_is_allowed_matches = allowed_is_matching named cells;
}
