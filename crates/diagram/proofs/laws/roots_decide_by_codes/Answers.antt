use Rattle.std.proofs.Common.{◌≡◌, true, refl}
use Rattle.diagram.proofs.Walks.{walk-below, page-below}
use Rattle.diagram.proofs.laws.roots_decide_by_codes.Goals as goal

pub returns : goal.returns
returns c = λ k shape nodes live sound filled l f.
    record { walks_end_in_codes = walk-below k shape nodes (λ r. live r ≡ true) sound 0 shape refl l f; page_has_codes = page-below k shape nodes (λ r. live r ≡ true) sound 0 shape refl l f }
