use Rattle.std.proofs.Common.{◌≡◌, true}
use Rattle.diagram.proofs.Denoting.{size-met}
use Rattle.diagram.proofs.Capacity.{enough}
use Rattle.diagram.proofs.laws.sizes_count_records.Goals as goal

pub returns : goal.returns
returns c = λ k shape nodes live sound filled roots a.
    record { as_many_as_records_met = size-met k shape nodes (λ r. live r ≡ true) sound filled roots a; not_more_than_records = enough k shape nodes (λ r. live r ≡ true) sound filled roots a }
