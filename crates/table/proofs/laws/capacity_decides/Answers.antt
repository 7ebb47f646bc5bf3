use Rattle.table.proofs.Exactness.{capacity_decides_lem}
use Rattle.table.proofs.laws.capacity_decides.Goals as goal

pub returns : goal.returns
returns c = capacity_decides_lem
