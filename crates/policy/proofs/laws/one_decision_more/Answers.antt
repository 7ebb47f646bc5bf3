use Rattle.policy.proofs.Combined.{one_decision_more_lem}
use Rattle.policy.proofs.laws.one_decision_more.Goals as goal

pub returns : goal.returns
returns c = one_decision_more_lem
