-- What a walk over a lent source carries back to the lender.
use Rattle.std.proofs.Common.{◌≡◌, refl}
use base.Fml.{GName}
use Rattle.policy.specs.Meaning.{Meaning}
use Rattle.making.specs.declared.sourced.Sourced.{Sourced}

-- what is kept of every owner whose source has this name and means what m means is kept of one with m itself
pub carried : {S : Type 0} (meaning : S → Meaning) (last : Sourced S) (n : GName) (m : S)
    → ((first : Sourced S) → (n ≡ first.source.ghost_name) × (meaning m ≡ meaning first.source.now)
    → (last.source.ghost_name ≡ first.source.ghost_name) × (meaning last.source.now ≡ meaning first.source.now))
    → (last.source.ghost_name ≡ n) × (meaning last.source.now ≡ meaning m)
carried meaning last n m h = h (record { source = record { ref_ptr = last.source.ref_ptr; ghost_name = n; now = m } }) (refl, refl)
