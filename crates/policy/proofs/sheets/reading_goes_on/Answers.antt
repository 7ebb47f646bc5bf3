use Rattle.std.proofs.Common.{zero-le}
use Rattle.fields.proofs.Reading.{read_on}
use Rattle.policy.specs.Sheets.{step}
use Rattle.policy.proofs.sheets.reading_goes_on.Goals as goal

pub returns : goal.returns
returns c v k s t at p q e = read_on (step v k) s t at p q 0 zero-le e
