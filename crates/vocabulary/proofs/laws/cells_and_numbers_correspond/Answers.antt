use Rattle.vocabulary.proofs.Gridded.{cells_and_numbers}
use Rattle.vocabulary.proofs.laws.cells_and_numbers_correspond.Goals as goal

pub returns : goal.returns
returns c = cells_and_numbers
