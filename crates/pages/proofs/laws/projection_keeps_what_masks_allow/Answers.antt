use Rattle.pages.proofs.Projecting.{projection_keeps}
use Rattle.pages.proofs.laws.projection_keeps_what_masks_allow.Goals as goal

pub returns : goal.returns
returns c = projection_keeps
