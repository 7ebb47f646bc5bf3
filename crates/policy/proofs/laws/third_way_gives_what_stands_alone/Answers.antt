use Rattle.policy.proofs.Combined.{third_way_gives_what_stands_alone_lem}
use Rattle.policy.proofs.laws.third_way_gives_what_stands_alone.Goals as goal

pub returns : goal.returns
returns c = third_way_gives_what_stands_alone_lem
