use Rattle.making.proofs.Keeping.{same_kept, same_lost}
use Rattle.making.proofs.operator.Operator.keeps_same.Goals as goal

pub returns-in-Minus : goal.returns-in-Minus
returns-in-Minus c = same_lost c.args.self c.in-Minus.is

pub returns-in_default : goal.returns-in_default
returns-in_default c = same_kept c.args.self c.in_default.not-Minus
