-- The tables of the compressor stages pass the test of all laws, computed once over every code, pair and triple.
use Rattle.std.specs.Prelude.{◌≡◌, true, refl}
use Rattle.algebra.specs.Stages.{stages}
use Rattle.algebra.specs.Computed.{passes, also, each}

pub tested : passes stages ≡ true
unfolding also each
tested = refl
