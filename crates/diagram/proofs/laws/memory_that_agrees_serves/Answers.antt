use Rattle.std.proofs.Common.{◌≡◌, true}
use Rattle.diagram.proofs.Changing.{stays}
use Rattle.diagram.proofs.laws.memory_that_agrees_serves.Goals as goal

pub returns : goal.returns
returns c = λ k shape nodes live sound filled nodes'. stays k shape nodes nodes' (λ r. live r ≡ true) sound
