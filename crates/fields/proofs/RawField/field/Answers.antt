use Rattle.std.proofs.Common.{arith}
use Rattle.std.proofs.lemmas.Bool.Decides.{nat_tests}
use Rattle.fields.proofs.RawField.field.Goals as goal

pub returns-in_default : goal.returns-in_default
returns-in_default c = record { says_what_is_laid_down = grind (arith, nat_tests); parts_fit = tt }
