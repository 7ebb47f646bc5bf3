-- How many cells the code's attributes have.
use Rattle.std.specs.Prelude.{ℕ, ◌-◌, List, map, length}
use Rattle.short_list.specs.Items.{items_of}
use Rattle.vocabulary.specs.declared.parts.Kind.{Kind}
use Rattle.vocabulary.specs.declared.parts.Kind.TheVariants.{Valued, Ranged}
use Rattle.vocabulary.specs.declared.parts.Attribute.{Attribute}

-- each value is a cell; n cuts bound n - 1 cells
abbrev pub cells_in : Kind → ℕ
cells_in (Valued n) = length (items_of n)
cells_in (Ranged c) = length (items_of c) - 1

-- how many cells each attribute has, as the code keeps them
abbrev pub counts_in : List Attribute → List ℕ
counts_in items = map (λ a. cells_in a.kind) items
