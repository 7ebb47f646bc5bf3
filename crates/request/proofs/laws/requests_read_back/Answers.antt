use Rattle.request.proofs.Written.{requests_read_back_lem}
use Rattle.request.proofs.laws.requests_read_back.Goals as goal

pub returns : goal.returns
returns c = requests_read_back_lem
