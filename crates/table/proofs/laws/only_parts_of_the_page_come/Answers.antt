use Rattle.table.proofs.Exactness.{only_parts_come}
use Rattle.table.proofs.laws.only_parts_of_the_page_come.Goals as goal

pub returns : goal.returns
returns c = only_parts_come
