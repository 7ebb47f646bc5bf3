use Rattle.request.proofs.Reordering.{order_does_not_matter_lem}
use Rattle.request.proofs.laws.order_does_not_matter.Goals as goal

pub returns : goal.returns
returns c = order_does_not_matter_lem
