use Rattle.pages.proofs.Operating.{pages_are_equal}
use Rattle.pages.proofs.laws.pages_are_equal_where_they_decide_alike.Goals as goal

pub returns : goal.returns
returns c = pages_are_equal
