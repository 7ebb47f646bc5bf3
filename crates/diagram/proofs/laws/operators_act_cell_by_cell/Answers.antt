use Rattle.diagram.proofs.Walks.{operators_act}
use Rattle.diagram.proofs.laws.operators_act_cell_by_cell.Goals as goal

pub returns : goal.returns
returns c = operators_act
