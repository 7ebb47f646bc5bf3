use Rattle.making.proofs.Keeping.{right_kept, right_lost}
use Rattle.making.proofs.operator.Operator.keeps_right.Goals as goal

pub returns-in-Sum : goal.returns-in-Sum
returns-in-Sum c = right_kept c.args.self c.in-Sum.is

pub returns-in-Meet : goal.returns-in-Meet
returns-in-Meet c = right_lost c.args.self c.in-Meet.is
