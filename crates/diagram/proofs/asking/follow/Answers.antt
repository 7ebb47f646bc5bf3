use Rattle.std.proofs.Common.{arith}
use Rattle.diagram.proofs.Asked.{follow_more, follow_all}
use Rattle.diagram.proofs.asking.follow.Goals as goal

pub loop-level-preserved : goal.loop-level-preserved
loop-level-preserved c = let e = follow_more c.args.nodes.now c.args.cells.now c.loop-level.level c.loop-level.link (omega arith) in cc

pub returns : goal.returns
returns c = let e = follow_all c.args.nodes.now c.args.cells.now c.loop-level.level c.loop-level.link (omega arith) in cc
