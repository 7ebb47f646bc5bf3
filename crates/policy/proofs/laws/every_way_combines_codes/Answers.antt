use Rattle.policy.proofs.Combined.{every_way_combines_codes_lem}
use Rattle.policy.proofs.laws.every_way_combines_codes.Goals as goal

pub returns : goal.returns
returns c = every_way_combines_codes_lem
