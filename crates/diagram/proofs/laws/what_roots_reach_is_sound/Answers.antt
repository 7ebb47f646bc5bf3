use Rattle.std.proofs.Common.{◌≡◌, true}
use Rattle.diagram.proofs.Changing.{met_is_live, met_sound, met_fits}
use Rattle.diagram.proofs.laws.what_roots_reach_is_sound.Goals as goal

pub returns : goal.returns
returns c = λ k shape nodes live sound filled roots a.
    record { only_live_records = met_is_live k shape nodes (λ r. live r ≡ true) sound filled roots a; sound_by_itself = met_sound k shape nodes (λ r. live r ≡ true) sound filled roots a; roots_stand_on_it = met_fits k shape nodes (λ r. live r ≡ true) sound filled roots a }
