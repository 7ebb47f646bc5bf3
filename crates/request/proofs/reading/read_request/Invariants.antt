use Rattle.std.proofs.Common.{◌≡◌, length}
use Rattle.fields.specs.Fields.{reading}
use Rattle.fields.proofs.Walking.{ReadSoFar}
use Rattle.vocabulary.specs.Record.{attributes_of}
use Rattle.request.specs.Request.{none_given, ask}
use Rattle.request.specs.Reading.{given_in}
use Rattle.request.proofs.reading.read_request.Given as goal

abbrev pub invariant-loop-raw : goal.invariant-loop-raw
invariant-loop-raw l =
    let v = attributes_of l.vocabulary in
    record {
      one_an_attribute : length (given_in l.given) ≡ length v;
      read_so_far : ReadSoFar (ask v) (reading (ask v) 0 (none_given v) 0 l.request) l.request l.raw-iterator (given_in l.given);
    }
