use Rattle.std.proofs.Common.{◌≡◌, true}
use Rattle.diagram.proofs.Capacity.{lacking}
use Rattle.diagram.proofs.laws.full_memory_lacks_capacity.Goals as goal

pub returns : goal.returns
returns c = λ k shape nodes live sound filled. lacking k shape nodes (λ r. live r ≡ true) sound filled
