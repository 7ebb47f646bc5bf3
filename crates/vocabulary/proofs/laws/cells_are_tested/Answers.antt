use Rattle.vocabulary.proofs.Gridded.{cells_are_tested_lem}
use Rattle.vocabulary.proofs.laws.cells_are_tested.Goals as goal

pub returns : goal.returns
returns c = cells_are_tested_lem
