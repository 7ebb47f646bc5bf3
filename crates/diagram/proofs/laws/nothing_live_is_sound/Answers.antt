use Rattle.std.proofs.Common.{◌≡◌, true}
use Rattle.std.proofs.lemmas.Bool.{both_ways}
use Rattle.diagram.proofs.Changing.{nothing_sound}
use Rattle.diagram.proofs.laws.nothing_live_is_sound.Goals as goal

pub returns : goal.returns
returns c = λ k shape nodes live none. nothing_sound k shape nodes (λ r. live r ≡ true) (λ r v. both_ways (live r) (none r) v)
