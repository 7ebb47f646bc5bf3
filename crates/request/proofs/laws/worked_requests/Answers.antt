use Rattle.request.proofs.Worked.{worked_requests_lem}
use Rattle.request.proofs.laws.worked_requests.Goals as goal

pub returns : goal.returns
returns c = worked_requests_lem
