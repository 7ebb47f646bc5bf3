use Rattle.decision.proofs.Paired.{each_two, as_many_as_pairs}
use Rattle.decision.proofs.laws.each_two_sheets_are_compared_once.Goals as goal

pub returns : goal.returns
returns c v ss = record { each_two_are_compared = each_two v ss; as_many_as_pairs = as_many_as_pairs v 0 ss }
