-- Worked values of the two algebras.
use Rattle.std.specs.Prelude.{◌≡◌}
use Rattle.algebra.specs.Derived.{minus, precedence}
use Rattle.algebra.specs.PermitDeny.{code_of, permit_deny}
use Rattle.algebra.specs.Stages.{stages}
use Rattle.algebra.specs.declared.permit_deny.Decision.TheVariants.{NotApplicable, Permit, Deny}

-- what the definitions answer on codes that are written out
pub record WorkedValues : Type 0 where
  pub permit_plus_deny_is_permit : permit_deny.sum (code_of Permit) (code_of Deny) ≡ code_of Permit
  pub permit_meets_deny_in_nothing : permit_deny.meet (code_of Permit) (code_of Deny) ≡ 0
  pub deny_minus_nothing_is_deny : minus permit_deny (code_of Deny) (code_of NotApplicable) ≡ code_of Deny
  pub deny_minus_deny_is_nothing : minus permit_deny (code_of Deny) (code_of Deny) ≡ 0
  pub deny_goes_before_permit : precedence permit_deny (code_of Deny) (code_of Permit) ≡ code_of Deny
  pub stage_4_plus_stage_2_is_stage_2 : stages.sum 4 2 ≡ 2
  pub stage_1_negated_is_stage_6 : stages.negation 1 ≡ 6
