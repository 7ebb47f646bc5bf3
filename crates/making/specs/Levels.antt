-- The levels at which places branch.
use Rattle.std.specs.Prelude.{◌≡◌, ℕ, ◌<◌, ◌≤◌, Bool, true, false, List, length}
use Rattle.diagram.specs.declared.Link.TheVariants.{Decision}
use Rattle.places.specs.declared.Seen.{Seen}
use Rattle.places.specs.declared.Seen.TheVariants.{Settled, Branches}

-- a place at level j is seen to branch at level i, which is not before j and of the shape, or that is not so and it is not applicable
abbrev pub BranchesWithin : List ℕ → ℕ → ℕ → Seen → Type 0
BranchesWithin shape j i (Branches at) = (at ≡ i) × (j ≤ i) × (i < length shape)
BranchesWithin shape j i (Settled l) = (l ≡ Decision 0) × (j ≤ i → i < length shape → ⊥)

-- whether a place is seen to be settled
abbrev pub is_settled : Seen → Bool
is_settled (Settled l) = true
is_settled (Branches i) = false
