use Rattle.std.proofs.Common.{◌≡◌, true}
use Rattle.diagram.proofs.Capacity.{held}
use Rattle.diagram.proofs.laws.records_hold_the_branching_parts.Goals as goal

pub returns : goal.returns
returns c = λ k shape nodes live sound filled. held k shape nodes (λ r. live r ≡ true) sound filled
