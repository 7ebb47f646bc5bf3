use Rattle.vocabulary.proofs.Cutting.{worked_cells_lem}
use Rattle.vocabulary.proofs.laws.worked_cells.Goals as goal

pub returns : goal.returns
returns c = worked_cells_lem
