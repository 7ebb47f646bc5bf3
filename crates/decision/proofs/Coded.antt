-- Every decision of a sheet under permit and deny is one of its three codes.
use Rattle.std.proofs.Common.{◌≡◌, ℕ, ◌<◌, true, List, Ok, Err, Result, refl, arith, IsOk}
use Rattle.algebra.specs.declared.permit_deny.Decision.{Decision}
use Rattle.algebra.specs.declared.permit_deny.NoDecision.{NoDecision}
use Rattle.algebra.specs.PermitDeny.{permit_deny, Decoded, at, sum_rows, meet_rows, exchanged}
use Rattle.algebra.specs.Computed.{passes, also, each, short_cuts_of}
use Rattle.vocabulary.specs.Vocabulary.{Attribute}
use Rattle.policy.proofs.Lawfully.{sheet_lawful}
use Rattle.decision.specs.Differing.{decision_at}

-- the tables of permit and deny pass the test of the laws
tested : passes permit_deny ≡ true
unfolding also each
tested = refl

-- a decision is below 3, for in every algebra it is below the size
pub decision-below_three : (v : List Attribute) (s : List ℕ) (g : ℕ) → decision_at v s g < 3
decision-below_three v s g = (sheet_lawful permit_deny (short_cuts_of 3 (at sum_rows) (at meet_rows) exchanged tested) v s).decisions_below_the_size g

-- a code below 3 has its decision
pub decoded_below_three : (r : Result Decision NoDecision) (code : ℕ) → code < 3 → Decoded code r → IsOk r
decoded_below_three (Ok d) code h is = refl
decoded_below_three (Err e) code h is = absurd (omega arith)
