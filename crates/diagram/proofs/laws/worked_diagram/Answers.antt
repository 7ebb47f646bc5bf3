use Rattle.diagram.proofs.Example.{worked}
use Rattle.diagram.proofs.laws.worked_diagram.Goals as goal

pub returns : goal.returns
returns c = worked
