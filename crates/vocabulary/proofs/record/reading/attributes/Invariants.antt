use Rattle.std.proofs.Common.{◌≡◌}
use Rattle.fields.specs.Fields.{reading}
use Rattle.fields.proofs.Walking.{ReadSoFar}
use Rattle.vocabulary.specs.Vocabulary.{start, step}
use Rattle.vocabulary.specs.Parts.{progress}
use Rattle.vocabulary.proofs.record.reading.attributes.Given as goal

abbrev pub invariant-loop-raw : goal.invariant-loop-raw
invariant-loop-raw l = record {
  same_sheet : l.reader.sheet.now ≡ l.sheet;
  read_so_far : ReadSoFar step (reading step 0 start 0 l.sheet) l.sheet l.raw-iterator (progress l.reader);
}
