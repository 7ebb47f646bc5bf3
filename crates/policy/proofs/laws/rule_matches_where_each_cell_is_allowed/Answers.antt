use Rattle.policy.proofs.Matched.{matches_where_allowed}
use Rattle.policy.proofs.laws.rule_matches_where_each_cell_is_allowed.Goals as goal

pub returns : goal.returns
returns c = matches_where_allowed
