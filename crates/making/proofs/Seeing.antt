-- What is seen of a place that branches where a record of it stands.
use Rattle.std.proofs.Common.{◌≡◌, ℕ, ◌<◌, ◌≤◌, false, List, length, sym, refl, subst}
use Rattle.marking.specs.Marks.{Marked}
use Rattle.diagram.specs.declared.Node.{Node}
use Rattle.diagram.specs.declared.Link.{Link}
use Rattle.diagram.specs.declared.Link.TheVariants.{Decision, Record}
use Rattle.diagram.specs.Diagram.{node}
use Rattle.diagram.specs.Sound.{Fit, Sound}
use Rattle.places.specs.declared.Seen.{Seen}
use Rattle.places.specs.declared.Seen.TheVariants.{Settled, Branches}
use Rattle.places.specs.Places.{Standing, Paging, SamePlaces, SeenAs, SaysTheSameUntil}
use Rattle.making.specs.Levels.{BranchesWithin, is_settled}

-- ---- links
-- a link may stand at every level up to its record's
pub rises : (k : ℕ) (nodes : List Node) (Live : ℕ → Type 0) (j : ℕ) (l : Link) → Fit k nodes Live j l → (m : ℕ) → ((r : ℕ) → l ≡ Record r → m ≤ (node nodes r).level) → Fit k nodes Live m l
rises k nodes Live j (Decision d) fit m h = fit
rises k nodes Live j (Record r) fit m h = (fit.0, h r refl)

-- ---- places that branch
-- a level of the shape, not before j, up to which the place says the same in each cell
pub record OneLevel {Place : Type 0} (stands : Standing Place) (says : Paging Place) (k : ℕ) (shape : List ℕ) (nodes : List Node) (marks : List ℕ) (j : ℕ) (p : Place) (i : ℕ) : Type 0 where
  pub not_before : j ≤ i
  pub of_the_shape : i < length shape
  pub same_until : SaysTheSameUntil stands says k shape nodes marks j p i

module _ {Place : Type 0} (stands : Standing Place) (says : Paging Place) (shape : List ℕ) (nodes : List Node) (j : ℕ) (p : Place) (i : ℕ)
    (on-sound : (k : ℕ) (marks : List ℕ) → Sound k shape nodes (Marked marks) → stands k shape nodes marks j p → OneLevel stands says k shape nodes marks j p i) where
  -- a place that on sound memory has such a level is seen as it is, for it branches there
  pub seen-within : (r : Seen) → BranchesWithin shape j i r → SeenAs stands says shape nodes j p r
  seen-within (Settled l) w = λ k marks sound st. let o = on-sound k marks sound st in absurd (w.1 o.not_before o.of_the_shape)
  seen-within (Branches at) w = (
    subst (λ (m : ℕ). j ≤ m) (sym w.0) w.1,
    subst (λ (m : ℕ). m < length shape) (sym w.0) w.2,
    λ k marks sound st. subst (SaysTheSameUntil stands says k shape nodes marks j p) (sym w.0) (on-sound k marks sound st).same_until,
  )

  -- and is not seen as settled
  pub unsettled_within : (r : Seen) → BranchesWithin shape j i r → (k : ℕ) (marks : List ℕ) → Sound k shape nodes (Marked marks) → stands k shape nodes marks j p → is_settled r ≡ false
  unsettled_within (Settled l) w k marks sound st = let o = on-sound k marks sound st in absurd (w.1 o.not_before o.of_the_shape)
  unsettled_within (Branches at) w k marks sound st = refl

-- places of which nothing changes are the same places
pub same_places : {Place : Type 0} (stands : Standing Place) (says : Paging Place) → SamePlaces stands says stands says
same_places stands says = record { still_stand = λ k shape nodes marks j p st. st; stood_before = λ k shape nodes marks j p st. st; say_the_same = λ shape nodes j p. refl }
