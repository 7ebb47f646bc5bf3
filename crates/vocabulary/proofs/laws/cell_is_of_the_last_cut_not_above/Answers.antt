use Rattle.vocabulary.proofs.Cutting.{cell_is_of_the_last_cut}
use Rattle.vocabulary.proofs.laws.cell_is_of_the_last_cut_not_above.Goals as goal

pub returns : goal.returns
returns c = cell_is_of_the_last_cut
