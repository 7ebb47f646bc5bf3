-- What the four ways make of decisions.
use Rattle.std.proofs.Common.{◌≡◌, ℕ, suc, ◌<◌, ◌≤◌, Bool, true, false, cond, eqb, List, [], ◌∷◌, ◌++◌, map, length, filter, refl, ap, ◌∙◌, arith}
use mathlib.Core.List.{map-append}
use Rattle.std.specs.List.{AllByRecursion}
use Rattle.std.proofs.lemmas.List.Elements.{filter-append}
use Rattle.std.proofs.ByRecursion.{All-weaker, All-map, all_kept_by}
use Rattle.std.proofs.lemmas.Bool.{lt-ltb, ne_eqb}
use Rattle.algebra.specs.Tables.{Tables}
use Rattle.algebra.specs.Laws.{ShortCutLaws}
use Rattle.algebra.specs.Derived.{precedence}
use Rattle.policy.specs.Rules.{Rule, matches, deciding, first_of, sum_from, sum_of, only_of, combine, decides}
use Rattle.policy.specs.Combining.{Codes, FirstWayIsPrecedence, ThirdWayGivesWhatStandsAlone, OneDecisionMore, EveryWayCombinesCodes}

-- ---- the ways one by one
-- the first of codes below k is below k, or 0
pub first_below : (k : ℕ) (ds : List ℕ) → 0 < k → Codes k ds → first_of ds < k
first_below k [] some codes = some
first_below k (d ∷ ds) some codes = codes.0

-- a code other than 0 goes before any code
goes_before : (t : Tables) (a b : ℕ) → 1 ≤ a → a < t.size → b < t.size → a ≡ precedence t a b
goes_before t a b applies ha hb =
    let other : a ≡ 0 → ⊥ = λ e. omega arith in
    simp (lt-ltb a t.size ha, lt-ltb b t.size hb, ne_eqb a 0 other)

-- the first applies, so it goes before whatever the later ones come to
pub first_way_is_precedence_lem : FirstWayIsPrecedence
first_way_is_precedence_lem t [] applies = refl
first_way_is_precedence_lem t (d ∷ ds) applies =
    let some : 0 < t.size = omega arith in
    goes_before t d (first_of ds) applies.0.0 applies.0.1 (first_below t.size ds some (All-weaker _ _ (λ d h. h.1) ds applies.1))
    ∙ ap (precedence t d) (first_way_is_precedence_lem t ds applies.1)

-- by the number of decisions: none, one, or more
pub third_way_gives_what_stands_alone_lem : ThirdWayGivesWhatStandsAlone
third_way_gives_what_stands_alone_lem t = record {
  none_gives_zero = refl;
  one_gives_itself = λ d. refl;
  two_or_more_give_zero = many;
  what_is_given_stood_alone = alone;
}
  where
    many : (ds : List ℕ) → 2 ≤ length ds → only_of ds ≡ 0
    many [] h = refl
    many (d ∷ []) h = absurd (omega arith)
    many (d ∷ e ∷ ds) h = refl

    alone : (d : ℕ) (ds : List ℕ) → 1 ≤ d → only_of ds ≡ d → ds ≡ d ∷ []
    alone d [] h e = absurd (omega arith)
    alone d (c ∷ []) h e = ap (λ x. x ∷ []) e
    alone d (c ∷ b ∷ ds) h e = absurd (omega arith)

-- ---- one more
-- a sum goes on from what it came to
pub sum-from_more : (sum : ℕ → ℕ → ℕ) (a : ℕ) (ds : List ℕ) (d : ℕ) → sum_from sum a (ds ++ d ∷ []) ≡ sum (sum_from sum a ds) d
sum-from_more sum a [] d = refl
sum-from_more sum a (e ∷ ds) d = sum-from_more sum (sum a e) ds d

-- a length that is not 0 takes the second way
unless_empty : (n x y : ℕ) → y ≡ cond (eqb (suc n) 0) x y
unless_empty n x y = let other : suc n ≡ 0 → ⊥ = λ e. omega arith in simp (ne_eqb (suc n) 0 other)

-- by whether there are decisions before
pub one_decision_more_lem : OneDecisionMore
one_decision_more_lem sum [] d = record { first_of_more = refl; sum_of_more = refl; only_of_more = refl }
one_decision_more_lem sum (e ∷ []) d = record { first_of_more = refl; sum_of_more = refl; only_of_more = refl }
one_decision_more_lem sum (e ∷ c ∷ ds) d = record {
  first_of_more = unless_empty (suc (length ds)) d e;
  sum_of_more = sum-from_more sum e (c ∷ ds) d ∙ unless_empty (suc (length ds)) d (sum (sum_of sum (e ∷ c ∷ ds)) d);
  only_of_more = unless_empty (suc (length ds)) d 0;
}

-- one rule more decides last, if it matches
pub deciding_more : (rules : List Rule) (r : Rule) (cells : List ℕ) → deciding (rules ++ r ∷ []) cells ≡ deciding rules cells ++ cond (matches r.named cells) (r.decision ∷ []) []
deciding_more rules r cells =
    let test : Rule → Bool = λ r. matches r.named cells in
    let read : Rule → ℕ = λ r. r.decision in
    ap (map read) (filter-append test rules (r ∷ [])) ∙ map-append read (filter test rules) (filter test (r ∷ []))
    ∙ ap (λ ds. deciding rules cells ++ ds) (last (test r))
  where
    last : (b : Bool) → map (λ (r : Rule). r.decision) (cond b (r ∷ []) []) ≡ cond b (r.decision ∷ []) []
    last true = refl
    last false = refl

-- ---- codes
-- what holds of both ways of a test holds of the test
chosen : (P : ℕ → Type 0) (b : Bool) (x y : ℕ) → P x → P y → P (cond b x y)
chosen P true x y p q = p
chosen P false x y p q = q

-- what holds of each of the four ways holds of every way
pub in_every_way : (P : ℕ → Type 0) (t : Tables) (way : ℕ) (ds : List ℕ) → P (combine t 1 ds) → P (combine t 2 ds) → P (combine t 3 ds) → P (combine t 4 ds) → P (combine t way ds)
in_every_way P t way ds first second third fourth =
    chosen P (eqb way 1) _ _ first (chosen P (eqb way 2) _ _ second (chosen P (eqb way 3) _ _ third fourth))

-- a sum of codes is a code at each step
sum-from-below : (t : Tables) → ShortCutLaws t → (a : ℕ) (ds : List ℕ) → a < t.size → Codes t.size ds → sum_from t.sum a ds < t.size
sum-from-below t laws a [] h codes = h
sum-from-below t laws a (d ∷ ds) h codes = sum-from-below t laws (t.sum a d) ds (laws.sum_below_size a d h codes.0) codes.1

-- a sum of codes is a code, and of none 0
pub sum_below : (t : Tables) → ShortCutLaws t → (ds : List ℕ) → Codes t.size ds → sum_of t.sum ds < t.size
sum_below t laws [] codes = let least = laws.size_at_least_2 in omega arith
sum_below t laws (d ∷ ds) codes = sum-from-below t laws d ds codes.0 codes.1

-- the only code is below k, or 0
pub only_below : (k : ℕ) (ds : List ℕ) → 0 < k → Codes k ds → only_of ds < k
only_below k [] some codes = some
only_below k (d ∷ []) some codes = codes.0
only_below k (d ∷ e ∷ ds) some codes = some

-- negations of codes are codes
pub negations_below : (t : Tables) → ShortCutLaws t → (ds : List ℕ) → Codes t.size ds → Codes t.size (map t.negation ds)
negations_below t laws ds codes = All-map _ t.negation ds (All-weaker _ _ laws.negation_below_size ds codes)

-- each of the four ways answers a code
pub combined-below : (t : Tables) → ShortCutLaws t → (way : ℕ) (ds : List ℕ) → Codes t.size ds → combine t way ds < t.size
combined-below t laws way ds codes =
    let least = laws.size_at_least_2 in
    let some : 0 < t.size = omega arith in
    in_every_way (λ d. d < t.size) t way ds (first_below t.size ds some codes) (sum_below t laws ds codes) (only_below t.size ds some codes)
    (laws.negation_below_size _ (sum_below t laws (map t.negation ds) (negations_below t laws ds codes)))

-- in the first three ways by their definitions; in the fourth 0 negated is 0, and a code negated twice is itself
pub every_way_combines_codes_lem : EveryWayCombinesCodes
every_way_combines_codes_lem t laws regrouping = record {
  below_the_size = combined-below t laws;
  none_gives_zero = λ way. in_every_way (λ d. d ≡ 0) t way [] refl refl refl laws.negation_of_zero_is_zero;
  one_gives_itself = λ way d h. in_every_way (λ e. e ≡ d) t way (d ∷ []) refl refl refl (regrouping.negating_twice_gives_back d h);
}

-- rules whose decisions are codes decide codes
pub decided-below : (t : Tables) → ShortCutLaws t → (way : ℕ) (rules : List Rule) (cells : List ℕ) → AllByRecursion (λ r. r.decision < t.size) rules → decides t way rules cells < t.size
decided-below t laws way rules cells codes =
    combined-below t laws way (deciding rules cells)
    (All-map _ (λ r. r.decision) _ (all_kept_by (λ r. matches r.named cells) _ rules codes))
