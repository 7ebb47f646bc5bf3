use Rattle.vocabulary.proofs.Progressing.{what_is_read_is_proper_lem}
use Rattle.vocabulary.proofs.laws.what_is_read_is_proper.Goals as goal

pub returns : goal.returns
returns c = what_is_read_is_proper_lem
