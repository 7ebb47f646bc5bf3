use Rattle.std.proofs.Common.{◌≡◌, true}
use Rattle.diagram.proofs.Denoting.{part_same}
use Rattle.diagram.proofs.laws.no_two_records_hold_one_part.Goals as goal

pub returns : goal.returns
returns c = λ k shape nodes live sound filled. part_same k shape nodes (λ r. live r ≡ true) sound filled
