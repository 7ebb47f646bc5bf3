use Rattle.beside.proofs.Upholding.{what_is_built_is_made}
use Rattle.beside.proofs.laws.what_is_built_stands.Goals as goal

pub returns : goal.returns
returns c = what_is_built_is_made
