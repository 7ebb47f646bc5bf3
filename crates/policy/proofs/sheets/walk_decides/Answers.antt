use Rattle.policy.proofs.Walked.{walk-decides}
use Rattle.policy.proofs.sheets.walk_decides.Goals as goal

pub returns : goal.returns
returns c = walk-decides
