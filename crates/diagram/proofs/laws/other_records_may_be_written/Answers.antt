use Rattle.std.proofs.Common.{◌≡◌, true, set, arith, length-set}
use Rattle.diagram.proofs.Denoting.{agree_set}
use Rattle.diagram.proofs.Changing.{stays}
use Rattle.diagram.proofs.laws.other_records_may_be_written.Goals as goal

pub returns : goal.returns
returns c = λ k shape nodes live sound filled r x h. stays k shape nodes (set nodes r x) (λ r. live r ≡ true) sound (agree_set k shape nodes (λ r. live r ≡ true) sound r x h) (omega (arith, length-set nodes r x))
