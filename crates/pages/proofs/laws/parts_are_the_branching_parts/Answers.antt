use Rattle.pages.proofs.Branches.{parts_are_branching}
use Rattle.pages.proofs.laws.parts_are_the_branching_parts.Goals as goal

pub returns : goal.returns
returns c = parts_are_branching
