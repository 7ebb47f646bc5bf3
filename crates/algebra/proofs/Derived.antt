-- The laws of the two operators that every algebra has.
use Rattle.std.proofs.Common.{rules}
use Rattle.algebra.specs.Derived.{DerivedLawsHold}

-- By cases: each operand is 0, another code, or no code.
pub derived_laws : DerivedLawsHold
derived_laws t laws = search rules
