use Rattle.request.proofs.Celled.{read_gives_cells_lem}
use Rattle.request.proofs.laws.read_gives_cells.Goals as goal

pub returns : goal.returns
returns c = read_gives_cells_lem
