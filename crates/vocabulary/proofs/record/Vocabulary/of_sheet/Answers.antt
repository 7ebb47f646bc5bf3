use Rattle.std.proofs.Common.{sym}
use Rattle.vocabulary.proofs.Progressing.{what_is_read_is_proper_lem}
use Rattle.vocabulary.proofs.record.Vocabulary.of_sheet.Goals as goal

pub invariant_of-result : goal.invariant_of-result
invariant_of-result c = record { proper = ∣ (what_is_read_is_proper_lem c.args.sheet.now _ (sym c.in_ok-attributes.ensures)).is_proper ∣₁ }
