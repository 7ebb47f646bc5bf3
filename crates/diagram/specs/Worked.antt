-- Two records that hold a page of permit and deny.
use Rattle.std.specs.Prelude.{◌≡◌, ℕ, true, List, [], ◌∷◌, replicate, nat_lt}
use Rattle.pages.specs.Worked.{shape, permits_fitters}
use Rattle.diagram.specs.declared.Node.{Node}
use Rattle.diagram.specs.declared.Link.{Link}
use Rattle.diagram.specs.declared.Link.TheVariants.{Decision, Record}
use Rattle.diagram.specs.Diagram.{walk, page, met}
use Rattle.vocabulary.specs.Grid.{Filled}
use Rattle.diagram.specs.Sound.{Fit, Sound}

-- a record that branches in two cells
abbrev pub in_two_cells : ℕ → Link → Link → Node
in_two_cells j a b = record { level = j; branches = a ∷ b ∷ replicate 14 (Decision 0) }

-- record 1 tells fitters from others, which go on to record 0, where writing is denied
abbrev pub records : List Node
records = in_two_cells 1 (Decision 0) (Decision 2) ∷ in_two_cells 0 (Record 0) (Decision 1) ∷ []

-- both records are live
abbrev pub Both : ℕ → Type 0
Both r = nat_lt r 2 ≡ true

-- the two are a sound set, whose root denotes the page, and paths lead through them
pub record WorkedDiagram : Type 0 where
  pub each_attribute_has_cells : Filled shape
  pub both_are_sound : Sound 3 shape records Both
  pub root_may_stand : Fit 3 records Both 0 (Record 1)
  pub root_denotes_the_page : page records 0 shape (Record 1) ≡ permits_fitters
  pub both_are_met : met records 0 shape (Record 1) ≡ 1 ∷ 0 ∷ []
  pub writing_at_home_is_denied : walk records 0 (0 ∷ 1 ∷ 1 ∷ []) (Record 1) ≡ 2
