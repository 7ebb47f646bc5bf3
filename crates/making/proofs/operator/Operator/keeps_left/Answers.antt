use Rattle.making.proofs.Keeping.{left_kept, left_lost}
use Rattle.making.proofs.operator.Operator.keeps_left.Goals as goal

pub returns-in-Meet : goal.returns-in-Meet
returns-in-Meet c = left_lost c.args.self c.in-Meet.is

pub returns-in_default : goal.returns-in_default
returns-in_default c = left_kept c.args.self c.in_default.not-Meet
