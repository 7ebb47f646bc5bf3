use Rattle.std.proofs.Common.{rules}
use Rattle.policy.proofs.Lawfully.{lawful_sheet}
use Rattle.policy.proofs.policy_sheet.PolicySheet.new.Goals as goal

pub invariant_of-result : goal.invariant_of-result
invariant_of-result g c = let laws = c.of-tables.result.short_cuts in record { lawful = search (rules, lawful_sheet) }
