use Rattle.std.proofs.Common.{◌≡◌, true, drop, refl}
use Rattle.diagram.proofs.Denoting.{canonical}
use Rattle.diagram.proofs.laws.links_of_one_page_are_one_link.Goals as goal

pub returns : goal.returns
returns c = λ k shape nodes live sound filled j. canonical k shape nodes (λ r. live r ≡ true) sound filled j (drop j shape) refl
