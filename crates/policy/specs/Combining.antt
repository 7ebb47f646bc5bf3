-- Laws of the four ways to combine decisions.
use Rattle.std.specs.Prelude.{◌≡◌, ℕ, ◌<◌, ◌≤◌, cond, List, [], ◌∷◌, ◌++◌, map, length, ◌==◌}
use mathlib.Core.List.{foldr}
use Rattle.std.specs.List.{AllByRecursion}
use Rattle.algebra.specs.Tables.{Tables}
use Rattle.algebra.specs.Laws.{ShortCutLaws, RegroupingLaws}
use Rattle.algebra.specs.Derived.{precedence}
use Rattle.algebra.specs.PermitDeny.{code_of, permit_deny}
use Rattle.algebra.specs.declared.permit_deny.Decision.TheVariants.{Permit, Deny}
use Rattle.policy.specs.Rules.{first_of, sum_of, only_of, combine}

-- each decision is one that a rule may make: from 1 to k - 1
abbrev pub Applicable : ℕ → List ℕ → Type 0
Applicable k ds = AllByRecursion (λ d. (1 ≤ d) × (d < k)) ds

-- each decision is a code below k
abbrev pub Codes : ℕ → List ℕ → Type 0
Codes k ds = AllByRecursion (λ d. d < k) ds

-- by the first way an earlier rule takes precedence over a later one
abbrev pub FirstWayIsPrecedence : Type 0
FirstWayIsPrecedence = (t : Tables) (ds : List ℕ) → Applicable t.size ds → combine t 1 ds ≡ foldr (precedence t) 0 ds

-- the third way gives a decision exactly where it stands alone
pub record OnlyAlone (t : Tables) : Type 0 where
  pub none_gives_zero : combine t 3 [] ≡ 0
  pub one_gives_itself : (d : ℕ) → combine t 3 (d ∷ []) ≡ d
  pub two_or_more_give_zero : (ds : List ℕ) → 2 ≤ length ds → combine t 3 ds ≡ 0
  pub what_is_given_stood_alone : (d : ℕ) (ds : List ℕ) → 1 ≤ d → combine t 3 ds ≡ d → ds ≡ d ∷ []

-- in every algebra
abbrev pub ThirdWayGivesWhatStandsAlone : Type 0
ThirdWayGivesWhatStandsAlone = (t : Tables) → OnlyAlone t

-- the fourth way is the second seen through negation
abbrev pub FourthWayNegatesTheSecond : Type 0
FourthWayNegatesTheSecond = (t : Tables) (ds : List ℕ) → combine t 4 ds ≡ t.negation (combine t 2 (map t.negation ds))

-- what one decision more at the end changes
pub record OneMore (sum : ℕ → ℕ → ℕ) (ds : List ℕ) (d : ℕ) : Type 0 where
  pub first_of_more : first_of (ds ++ d ∷ []) ≡ cond (length ds == 0) d (first_of ds)
  pub sum_of_more : sum_of sum (ds ++ d ∷ []) ≡ cond (length ds == 0) d (sum (sum_of sum ds) d)
  pub only_of_more : only_of (ds ++ d ∷ []) ≡ cond (length ds == 0) d 0

-- after any decisions
abbrev pub OneDecisionMore : Type 0
OneDecisionMore = (sum : ℕ → ℕ → ℕ) (ds : List ℕ) (d : ℕ) → OneMore sum ds d

-- every way combines codes into a code; none gives 0, and one alone gives itself
pub record CombinesCodes (t : Tables) : Type 0 where
  pub below_the_size : (way : ℕ) (ds : List ℕ) → Codes t.size ds → combine t way ds < t.size
  pub none_gives_zero : (way : ℕ) → combine t way [] ≡ 0
  pub one_gives_itself : (way d : ℕ) → d < t.size → combine t way (d ∷ []) ≡ d

-- in every algebra that keeps the laws
abbrev pub EveryWayCombinesCodes : Type 0
EveryWayCombinesCodes = (t : Tables) → ShortCutLaws t → RegroupingLaws t → CombinesCodes t

-- what each of the four ways makes of decisions to permit or deny
abbrev pub in_each_way : List ℕ → List ℕ
in_each_way ds = map (λ way. combine permit_deny way ds) (1 ∷ 2 ∷ 3 ∷ 4 ∷ [])

-- decisions that are written out, combined in the four ways
pub record WorkedCombinations : Type 0 where
  pub none : in_each_way [] ≡ 0 ∷ 0 ∷ 0 ∷ 0 ∷ []
  pub permit_alone : in_each_way (code_of Permit ∷ []) ≡ code_of Permit ∷ code_of Permit ∷ code_of Permit ∷ code_of Permit ∷ []
  pub deny_alone : in_each_way (code_of Deny ∷ []) ≡ code_of Deny ∷ code_of Deny ∷ code_of Deny ∷ code_of Deny ∷ []
  pub deny_then_permit : in_each_way (code_of Deny ∷ code_of Permit ∷ []) ≡ code_of Deny ∷ code_of Permit ∷ 0 ∷ code_of Deny ∷ []
