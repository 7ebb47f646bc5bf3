use Rattle.std.proofs.Common.{◌≡◌, true}
use Rattle.diagram.proofs.Changing.{one_more}
use Rattle.diagram.proofs.laws.one_more_record_is_sound.Goals as goal

pub returns : goal.returns
returns c = λ k shape nodes live sound filled r x more. one_more k shape nodes (λ r. live r ≡ true) (λ s. more s ≡ true) sound r x
