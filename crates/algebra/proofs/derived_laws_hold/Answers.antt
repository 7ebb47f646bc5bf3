use Rattle.algebra.proofs.Derived.{derived_laws}
use Rattle.algebra.proofs.derived_laws_hold.Goals as goal

pub returns : goal.returns
returns c = derived_laws
