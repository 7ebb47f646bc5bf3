use Rattle.pages.proofs.Operating.{made_by_cells}
use Rattle.pages.proofs.laws.pages_are_made_by_cells.Goals as goal

pub returns : goal.returns
returns c = made_by_cells
