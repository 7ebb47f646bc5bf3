use Rattle.pages.proofs.Operating.{left-decides}
use Rattle.pages.proofs.laws.what_is_left_decides_as_the_page.Goals as goal

pub returns : goal.returns
returns c = left-decides
