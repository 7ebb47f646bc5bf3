-- Two pages of permit and deny over three attributes of two cells each, and what operators make of them.
use Rattle.std.specs.Prelude.{◌≡◌, ℕ, List, [], ◌∷◌}
use Rattle.algebra.specs.Derived.{precedence}
use Rattle.algebra.specs.PermitDeny.{permit_deny}
use Rattle.pages.specs.Operators.{combined}
use Rattle.pages.specs.Sizes.{size}

-- role, act and outdoor temperature have two cells each
abbrev pub shape : List ℕ
shape = 2 ∷ 2 ∷ 2 ∷ []

-- fitters are permitted, else writing is denied
abbrev pub permits_fitters : List ℕ
permits_fitters = 0 ∷ 0 ∷ 2 ∷ 2 ∷ 1 ∷ 1 ∷ 1 ∷ 1 ∷ []

-- at home writing is permitted while it is warm
abbrev pub permits_writing_in_warmth : List ℕ
permits_writing_in_warmth = 0 ∷ 0 ∷ 0 ∷ 1 ∷ 0 ∷ 0 ∷ 0 ∷ 0 ∷ []

-- the sum of the two
abbrev pub sum_of_both : List ℕ
sum_of_both = 0 ∷ 0 ∷ 2 ∷ 1 ∷ 1 ∷ 1 ∷ 1 ∷ 1 ∷ []

-- the sizes of these pages, and what sum and precedence make of them
pub record WorkedPages : Type 0 where
  pub first_has_size_2 : size shape (permits_fitters ∷ []) ≡ 2
  pub second_has_size_3 : size shape (permits_writing_in_warmth ∷ []) ≡ 3
  pub sum_at_each_number : combined permit_deny.sum permits_fitters permits_writing_in_warmth ≡ sum_of_both
  pub sum_has_size_3 : size shape (sum_of_both ∷ []) ≡ 3
  pub the_three_have_size_8 : size shape (permits_fitters ∷ permits_writing_in_warmth ∷ sum_of_both ∷ []) ≡ 8
  pub first_before_second_is_the_first : combined (precedence permit_deny) permits_fitters permits_writing_in_warmth ≡ permits_fitters
  pub second_before_first_is_the_sum : combined (precedence permit_deny) permits_writing_in_warmth permits_fitters ≡ sum_of_both
