use Rattle.std.proofs.Common.{◌≡◌, true}
use Rattle.diagram.proofs.Marking.{counted_by_marks}
use Rattle.diagram.proofs.laws.closed_marks_count_the_size.Goals as goal

pub returns : goal.returns
returns c = λ k shape nodes live sound filled roots a marks h. counted_by_marks k shape nodes (λ r. live r ≡ true) sound filled roots a marks h
