-- What is built in a memory where just the standing policies are marked stands beside them.
use Rattle.std.proofs.Common.{◌≡◌, ℕ, List, [], ◌∷◌, Some, None, Option, refl, ap₂}
use Rattle.std.specs.List.{AllByRecursion}
use Rattle.vocabulary.specs.Grid.{Filled}
use Rattle.marking.specs.Marks.{Marked}
use Rattle.diagram.specs.declared.Node.{Node}
use Rattle.diagram.specs.declared.Link.{Link}
use Rattle.diagram.specs.Sound.{Fit, Sound, Met}
use Rattle.diagram.specs.Marks.{Closed}
use Rattle.diagram.proofs.Marking.{marked_met}
use Rattle.diagram.proofs.Changing.{fit_sub, fits_sub, closed_sound, met_sound, met_fits, fit_frame}
use Rattle.diagram.proofs.Denoting.{page_frame}
use Rattle.places.specs.Places.{Standing, Paging, KeepWhileMemoryGrows, FillTheGrid}
use Rattle.reaching.specs.Roots.{SoundRoots}
use Rattle.table.specs.Built.{Built}
use Rattle.table.specs.Exact.{OnlyRootsStand}
use Rattle.table.proofs.Exactness.{capacity_decides_lem}
use Rattle.beside.specs.Makes.{pages_of, StillStand, Makes, WhatIsBuiltIsMade}

module _ (k : ℕ) (shape : List ℕ) (nodes : List Node) (roots : List Link) (marks : List ℕ) (filled : Filled shape) (sound : SoundRoots k shape nodes roots) (closed : Closed shape nodes roots marks) where
  -- the marked records are sound, for with a record those that it leads to are marked
  pub marked_sound : Sound k shape nodes (Marked marks)
  marked_sound =
      closed_sound k shape nodes (Met nodes shape roots) sound.what_they_reach_is_sound (Marked marks) closed.only_what_is_met_is_marked
      (λ r m c b s e _. closed.what_they_lead_to_is_marked r m c b s e)

  -- and the roots may stand on them
  pub roots_fit : AllByRecursion (Fit k nodes (Marked marks) 0) roots
  roots_fit = fits_sub k shape nodes (Met nodes shape roots) sound.what_they_reach_is_sound (Marked marks) roots sound.each_root_fits (λ i r b e _. closed.roots_are_marked i r b e)

  -- and so may every link that stands on what the roots reach
  pub fits_marked : (l : Link) → Fit k nodes (Met nodes shape roots) 0 l → Fit k nodes (Marked marks) 0 l
  fits_marked l f =
      fit_sub k shape nodes (Met nodes shape roots) sound.what_they_reach_is_sound (Marked marks) 0 l f
      (λ s e m. marked_met k shape nodes (Met nodes shape roots) sound.what_they_reach_is_sound filled roots sound.each_root_fits marks closed s m)

  only_roots : OnlyRootsStand k shape nodes marks roots
  only_roots = record { attributes_have_cells = filled; live_is_sound = marked_sound; roots_may_stand = roots_fit; only_what_they_meet_is_live = closed.only_what_is_met_is_marked }

  module _ (nodes' : List Node) (marks' : List ℕ) (p : List ℕ) where
    -- in the memory that has grown the roots fit and keep their pages
    fit_there : (r : Option Link) → Built k shape nodes (Marked marks) nodes' (Marked marks') 0 p r → (ls : List Link) → AllByRecursion (Fit k nodes (Marked marks) 0) ls → AllByRecursion (Fit k nodes' (Marked marks') 0) ls
    fit_there r b [] f = tt
    fit_there r b (l ∷ ls) f =
        let grown = b.memory_has_grown in
        (fit_frame k shape nodes nodes' (Marked marks) (Marked marks') grown.live_records_stay grown.live_stays_live 0 l f.0, fit_there r b ls f.1)

    kept_there : (r : Option Link) → Built k shape nodes (Marked marks) nodes' (Marked marks') 0 p r → (ls : List Link) → AllByRecursion (Fit k nodes (Marked marks) 0) ls → pages_of shape nodes' ls ≡ pages_of shape nodes ls
    kept_there r b [] f = refl
    kept_there r b (l ∷ ls) f =
        ap₂ ◌∷◌ (page_frame k shape nodes (Marked marks) marked_sound nodes' b.memory_has_grown.live_records_stay 0 shape refl l f.0) (kept_there r b ls f.1)

    -- roots that fit on a sound set are sound by themselves
    by_themselves : Sound k shape nodes' (Marked marks') → (ls : List Link) → AllByRecursion (Fit k nodes' (Marked marks') 0) ls → SoundRoots k shape nodes' ls
    by_themselves s ls f = record { what_they_reach_is_sound = met_sound k shape nodes' (Marked marks') s filled ls f; each_root_fits = met_fits k shape nodes' (Marked marks') s filled ls f }

    others : (r : Option Link) → Built k shape nodes (Marked marks) nodes' (Marked marks') 0 p r → StillStand k shape nodes nodes' roots
    others r b = record { roots_are_sound = by_themselves b.memory_has_grown.still_sound roots (fit_there r b roots roots_fit); pages_are_kept = kept_there r b roots roots_fit }

    pub made : (r : Option Link) → Built k shape nodes (Marked marks) nodes' (Marked marks') 0 p r → Makes k shape nodes roots nodes' p r
    made None b = record {
      memory_is_as_long = b.memory_has_grown.memory_is_as_long;
      others_still_stand = others None b;
      root_or_lack = capacity_decides_lem k shape nodes marks roots only_roots nodes' marks' p None b;
    }
    made (Some l) b = record {
      memory_is_as_long = b.memory_has_grown.memory_is_as_long;
      others_still_stand = others (Some l) b;
      root_or_lack = record {
        all_roots_are_sound = by_themselves b.memory_has_grown.still_sound (l ∷ roots) (b.link_or_lack.0, fit_there (Some l) b roots roots_fit);
        denotes_the_page = b.link_or_lack.1;
        records_suffice = capacity_decides_lem k shape nodes marks roots only_roots nodes' marks' p (Some l) b;
      };
    }

pub what_is_built_is_made : WhatIsBuiltIsMade
what_is_built_is_made k shape nodes roots marks filled sound closed nodes' marks' p r b = made k shape nodes roots marks filled sound closed nodes' marks' p r b

-- what reaching and walking promise of the counts of a shape, together: the page of the start is made beside the roots
module _ {Place : Type 0} (stands : Standing Place) (says : Paging Place) (k : ℕ) (shape : List ℕ) (nodes : List Node) (roots : List Link) (marks : List ℕ) (nodes' : List Node) (marks' : List ℕ) (start : Place) (r : Option Link) where
  -- what the walk promises over these counts
  abbrev pub WalkBuilds : List ℕ → Type 0
  WalkBuilds counts =
      Filled counts → Sound k counts nodes (Marked marks) → KeepWhileMemoryGrows stands says k counts → FillTheGrid stands says k counts → stands k counts nodes marks 0 start
      → Built k counts nodes (Marked marks) nodes' (Marked marks') 0 (says counts nodes 0 start) r

  pub walked_beside : Filled shape → SoundRoots k shape nodes roots → Closed shape nodes roots marks → WalkBuilds shape → KeepWhileMemoryGrows stands says k shape → FillTheGrid stands says k shape
      → stands k shape nodes marks 0 start → Makes k shape nodes roots nodes' (says shape nodes 0 start) r
  walked_beside filled sound closed walk keep fill stand =
      made k shape nodes roots marks filled sound closed nodes' marks' (says shape nodes 0 start) r (walk filled (marked_sound k shape nodes roots marks filled sound closed) keep fill stand)
