-- What the operators keep where a decision is 0 or two are equal, and that they give codes.
use Rattle.std.proofs.Common.{◌≡◌, ℕ, ◌<◌, ◌⊎◌, refl, ap, ◌∙◌, ⊎_elim, arith}
use Rattle.algebra.specs.Tables.{Tables}
use Rattle.algebra.specs.Laws.{ShortCutLaws}
use Rattle.algebra.proofs.Derived.{derived_laws}
use Rattle.making.specs.declared.operator.Operator.{Operator}
use Rattle.making.specs.declared.operator.Operator.TheVariants.{Sum, Meet, Minus, Precedence}
use Rattle.making.specs.Operators.{operator_of, InEveryAlgebra}

-- 0 is a code of every algebra
pub zero_below : (t : Tables) → ShortCutLaws t → 0 < t.size
zero_below t laws = let h = laws.size_at_least_2 in omega arith

-- codes give a code, by the law of each operator
pub operator_below : (o : Operator) (t : Tables) → ShortCutLaws t → (a b : ℕ) → a < t.size → b < t.size → operator_of o t a b < t.size
operator_below Sum t laws a b h i = laws.sum_below_size a b h i
operator_below Meet t laws a b h i = laws.meet_below_size a b h i
operator_below Minus t laws a b h i = (derived_laws t laws).minus_below_size a b
operator_below Precedence t laws a b h i = (derived_laws t laws).precedence_below_size a b

-- equal decisions are kept by all operators but subtraction
pub same_kept : (o : Operator) → (o ≡ Minus → ⊥) → InEveryAlgebra (λ t code. operator_of o t code code ≡ code)
same_kept Sum other t laws code h = laws.sum_with_itself_is_itself code h
same_kept Meet other t laws code h = laws.meet_with_itself_is_itself code h
same_kept Minus other t laws code h = absurd (other refl)
same_kept Precedence other t laws code h = (derived_laws t laws).precedence_over_itself_is_itself code h

-- which gives 0
pub same_lost : (o : Operator) → o ≡ Minus → InEveryAlgebra (λ t code. operator_of o t code code ≡ 0)
same_lost o is t laws code h = ap (λ o. operator_of o t code code) is ∙ (derived_laws t laws).minus_itself_is_zero code

-- the left side is kept over 0 by all operators but the meet
pub left_kept : (o : Operator) → (o ≡ Meet → ⊥) → InEveryAlgebra (λ t code. operator_of o t code 0 ≡ code)
left_kept Sum other t laws code h = laws.sum_with_zero_is_the_other code h
left_kept Meet other t laws code h = absurd (other refl)
left_kept Minus other t laws code h = (derived_laws t laws).minus_zero_is_itself code h
left_kept Precedence other t laws code h = (derived_laws t laws).precedence_over_zero_is_itself code h

-- which gives 0
pub left_lost : (o : Operator) → o ≡ Meet → InEveryAlgebra (λ t code. operator_of o t code 0 ≡ 0)
left_lost o is t laws code h = ap (λ o. operator_of o t code 0) is ∙ laws.meet_with_zero_is_zero code h

-- the right side is kept over 0 by sum and precedence, the sum for it commutes
pub right_kept : (o : Operator) → (o ≡ Sum) ⊎ (o ≡ Precedence) → InEveryAlgebra (λ t code. operator_of o t 0 code ≡ code)
right_kept o is t laws code h =
    ⊎_elim (λ e. ap (λ o. operator_of o t 0 code) e ∙ laws.sum_commutes 0 code (zero_below t laws) h ∙ laws.sum_with_zero_is_the_other code h)
    (λ e. ap (λ o. operator_of o t 0 code) e ∙ (derived_laws t laws).zero_over_another_is_the_other code h) is

-- and the others give 0, the meet for it commutes
pub right_lost : (o : Operator) → (o ≡ Meet) ⊎ (o ≡ Minus) → InEveryAlgebra (λ t code. operator_of o t 0 code ≡ 0)
right_lost o is t laws code h =
    ⊎_elim (λ e. ap (λ o. operator_of o t 0 code) e ∙ laws.meet_commutes 0 code (zero_below t laws) h ∙ laws.meet_with_zero_is_zero code h)
    (λ e. ap (λ o. operator_of o t 0 code) e ∙ (derived_laws t laws).zero_minus_is_zero code) is
