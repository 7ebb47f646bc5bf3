use Rattle.std.proofs.Common.{◌≡◌, length, drop}
use Rattle.vocabulary.specs.Record.{cells_of}
use Rattle.request.specs.Request.{all_given}
use Rattle.request.specs.Reading.{given_in}
use Rattle.request.proofs.Collecting.{after}
use Rattle.request.proofs.given.Given.all.Given as goal

abbrev pub invariant-loop-given : goal.invariant-loop-given
invariant-loop-given l = record {
  as_many_cells : length (cells_of l.cells) ≡ l.given-index;
  others_follow : all_given l.end (given_in l.self) ≡ after (cells_of l.cells) (all_given l.end (drop l.given-index (given_in l.self)));
}
