use Rattle.vocabulary.proofs.Progressing.{reading_goes_on_lem}
use Rattle.vocabulary.proofs.laws.reading_goes_on.Goals as goal

pub returns : goal.returns
returns c = reading_goes_on_lem
