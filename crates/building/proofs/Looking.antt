-- A place is opened by what is seen of it, after which the owner of the places may have changed.
use Rattle.std.proofs.Common.{ℕ, ◌+◌, List, ◌∷◌}
use Rattle.diagram.specs.declared.Node.{Node}
use Rattle.diagram.specs.declared.Link.{Link}
use Rattle.places.specs.declared.Seen.TheVariants.{Settled, Branches}
use Rattle.places.specs.Places.{Standing, Paging, LeadsTo, SamePlaces, SeenAs}
use Rattle.building.specs.declared.Frame.{Frame}
use Rattle.building.specs.Walk.{fresh, Aim, Opening, Handing}
use Rattle.building.proofs.Staying.{opening_stays, handing_stays, until_stays}
use Rattle.building.proofs.Walking.{opened, settled}

module _ {Place : Type 0} (stands : Standing Place) (says : Paging Place) (stands' : Standing Place) (says' : Paging Place) (same : SamePlaces stands says stands' says') (shape : List ℕ) (nodes : List Node) (fs : List (Frame Place)) (j : ℕ) (p : Place) where
  -- its link is seen, and handed on
  pub handed : (l : Link) → SeenAs stands says shape nodes j p (Settled l) → (aim : Aim) (marks : List ℕ) → Opening stands says shape aim nodes marks fs j p → Handing stands' says' shape aim nodes marks fs l
  handed l seen aim marks o =
      handing_stays stands says stands' says' same shape aim nodes marks fs l (settled stands says shape aim nodes marks fs j p o l (seen aim.codes marks))

  -- the level is seen at which it branches, and its first cell is opened
  pub entered : (i : ℕ) → SeenAs stands says shape nodes j p (Branches i) → (q : Place) → ((k : ℕ) (marks : List ℕ) → LeadsTo stands' says' k shape nodes marks i p 0 q) → (aim : Aim) (marks : List ℕ)
      → Opening stands says shape aim nodes marks fs j p → Opening stands' says' shape aim nodes marks (fresh p i ∷ fs) (i + 1) q
  entered i seen q leads aim marks o =
      opened stands' says' shape aim nodes marks fs j p (opening_stays stands says stands' says' same shape aim nodes marks fs j p o) i seen.0 seen.1
      (until_stays stands says stands' says' same aim.codes shape nodes marks j p i (seen.2 aim.codes marks o.live_is_sound o.place_stands)) q (leads aim.codes marks)
