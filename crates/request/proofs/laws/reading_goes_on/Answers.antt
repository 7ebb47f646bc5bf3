use Rattle.request.proofs.Giving.{reading_goes_on_lem}
use Rattle.request.proofs.laws.reading_goes_on.Goals as goal

pub returns : goal.returns
returns c = reading_goes_on_lem
