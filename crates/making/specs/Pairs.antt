-- Pairs of links as places: an operator makes one page of the pages of both links.
use Rattle.std.specs.Prelude.{◌≡◌, ℕ, min, Bool, true, false, ◌⊎◌, List, drop, Some, None, Decides, Option}
use Rattle.algebra.specs.Tables.{Tables}
use Rattle.pages.specs.Operators.{combined}
use Rattle.marking.specs.Marks.{Marked}
use Rattle.diagram.specs.declared.Node.{Node}
use Rattle.diagram.specs.declared.Link.{Link}
use Rattle.diagram.specs.declared.Link.TheVariants.{Decision, Record}
use Rattle.diagram.specs.Diagram.{node, page}
use Rattle.diagram.specs.Sound.{Fit, Sound}
use Rattle.places.specs.declared.Seen.{Seen}
use Rattle.places.specs.Places.{Standing, Paging, SettledBy}
use Rattle.making.specs.declared.operator.Operator.{Operator}
use Rattle.making.specs.declared.pairs.Pair.{Pair}
use Rattle.making.specs.Operators.{operator_of}
use Rattle.making.specs.Levels.{is_settled}

-- the codes are those of the algebra, and both links of a pair may stand at level j
pub record BothFit (t : Tables) (k : ℕ) (nodes : List Node) (marks : List ℕ) (j : ℕ) (p : Pair) : Type 0 where
  pub codes_of_the_algebra : k ≡ t.size
  pub left_fits : Fit k nodes (Marked marks) j p.left
  pub right_fits : Fit k nodes (Marked marks) j p.right

-- a pair stands where both its links fit
abbrev pub pair_stands : Tables → Standing Pair
pair_stands t k shape nodes marks j p = BothFit t k nodes marks j p

-- a pair says at each grid number what the operator gives for what its links decide there
abbrev pub pair_says : Operator → Tables → Paging Pair
pair_says o t shape nodes j p = combined (operator_of o t) (page nodes j (drop j shape) p.left) (page nodes j (drop j shape) p.right)

-- whether a link is a decision
abbrev pub is_decision : Link → Bool
is_decision (Decision d) = true
is_decision (Record r) = false

-- a pair is settled at once when both sides are decisions, the sides are equal, or one side is not applicable
abbrev pub AtOnce : Pair → Type 0
AtOnce p = ((is_decision p.left ≡ true) × (is_decision p.right ≡ true)) ⊎ ((p.left ≡ p.right) ⊎ ((p.left ≡ Decision 0) ⊎ (p.right ≡ Decision 0)))

-- the link of a pair that is settled at once denotes what the pair says, wherever it stands; there is none for another pair
abbrev pub SettledAs : Tables → Operator → Pair → Option Link → Type 0
SettledAs t o p None = AtOnce p → ⊥
SettledAs t o p (Some l) =
    AtOnce p × ((k : ℕ) (shape : List ℕ) (nodes : List Node) (marks : List ℕ) (j : ℕ) → SettledBy (pair_stands t) (pair_says o t) k shape nodes marks j p l)

-- on sound memory a pair that stands is seen to be settled just where it is settled at once
abbrev pub SettledJustAtOnce : Tables → List ℕ → List Node → ℕ → Pair → Seen → Type 0
SettledJustAtOnce t shape nodes j p r =
    (k : ℕ) (marks : List ℕ) → Sound k shape nodes (Marked marks) → pair_stands t k shape nodes marks j p → Decides (is_settled r) (AtOnce p)

-- the first level at which one of two links has its record; 0 where none has one
abbrev pub first_level : List Node → Link → Link → ℕ
first_level nodes (Decision a) (Decision b) = 0
first_level nodes (Decision a) (Record s) = (node nodes s).level
first_level nodes (Record r) (Decision b) = (node nodes r).level
first_level nodes (Record r) (Record s) = min (node nodes r).level (node nodes s).level
