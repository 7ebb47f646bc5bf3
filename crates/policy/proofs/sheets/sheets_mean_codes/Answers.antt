use Rattle.policy.proofs.Lawfully.{sheet_lawful}
use Rattle.policy.proofs.sheets.sheets_mean_codes.Goals as goal

pub returns : goal.returns
returns c = sheet_lawful
