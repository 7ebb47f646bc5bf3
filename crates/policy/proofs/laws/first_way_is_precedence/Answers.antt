use Rattle.policy.proofs.Combined.{first_way_is_precedence_lem}
use Rattle.policy.proofs.laws.first_way_is_precedence.Goals as goal

pub returns : goal.returns
returns c = first_way_is_precedence_lem
