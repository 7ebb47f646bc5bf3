use Rattle.pages.proofs.Sizing.{size_is_their_number}
use Rattle.pages.proofs.laws.size_is_the_number_of_branching_parts.Goals as goal

pub returns : goal.returns
returns c = size_is_their_number
