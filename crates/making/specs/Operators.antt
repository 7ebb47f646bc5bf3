-- The operators on two decisions.
use Rattle.std.specs.Prelude.{ℕ, ◌<◌}
use Rattle.algebra.specs.Tables.{Tables}
use Rattle.algebra.specs.Laws.{ShortCutLaws}
use Rattle.algebra.specs.Derived.{minus, precedence}
use Rattle.making.specs.declared.operator.Operator.{Operator}
use Rattle.making.specs.declared.operator.Operator.TheVariants.{Sum, Meet, Minus, Precedence}

-- what an operator is on the codes of an algebra
abbrev pub operator_of : Operator → Tables → ℕ → ℕ → ℕ
operator_of Sum t = t.sum
operator_of Meet t = t.meet
operator_of Minus t = minus t
operator_of Precedence t = precedence t

-- a fact about every code of every algebra
abbrev pub InEveryAlgebra : (Tables → ℕ → Type 0) → Type 0
InEveryAlgebra P = (t : Tables) → ShortCutLaws t → (code : ℕ) → code < t.size → P t code
