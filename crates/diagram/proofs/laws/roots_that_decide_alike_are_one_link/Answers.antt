use Rattle.std.proofs.Common.{◌≡◌, true}
use Rattle.diagram.proofs.Walks.{alike_walks}
use Rattle.diagram.proofs.laws.roots_that_decide_alike_are_one_link.Goals as goal

pub returns : goal.returns
returns c = λ k shape nodes live sound filled. alike_walks k shape nodes (λ r. live r ≡ true) sound filled
