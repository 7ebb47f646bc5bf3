use Rattle.pages.proofs.Operating.{operators_act}
use Rattle.pages.proofs.laws.operators_act_on_decisions.Goals as goal

pub returns : goal.returns
returns c = operators_act
