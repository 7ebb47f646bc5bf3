-- The attribute that is being read, joined to those that are whole.
use Rattle.std.specs.Prelude.{◌*◌, ◌<◌, ◌≤◌, List, [], ◌∷◌, ◌++◌, length, Some, None, Option}
use Rattle.short_list.specs.Items.{items_of}
use Rattle.vocabulary.specs.declared.parts.Attribute.{Attribute}
use Rattle.vocabulary.specs.declared.attributes.Attributes.{Attributes}
use Rattle.vocabulary.specs.Counted.{cells_in}

-- attributes, and one more if there is one
abbrev pub joined : List Attribute → Option Attribute → List Attribute
joined whole None = whole
joined whole (Some a) = whole ++ a ∷ []

-- there is room for one more, and its cells fit, if there is one
abbrev pub RoomFor : Attributes → Option Attribute → Type 0
RoomFor v None = Unit {0}
RoomFor v (Some a) = (length (items_of v.items) < 8) × (v.size * cells_in a.kind ≤ 4096)
