-- The tables of permit and deny pass the test of all laws, computed once over every code, pair and triple.
use Rattle.std.specs.Prelude.{◌≡◌, true, refl}
use Rattle.algebra.specs.PermitDeny.{permit_deny}
use Rattle.algebra.specs.Computed.{passes, also, each}

pub tested : passes permit_deny ≡ true
unfolding also each
tested = refl
