-- Room for the attribute that is being read.
use Rattle.std.specs.Prelude.{◌≡◌, ℕ, ◌-◌, ◌*◌, ◌<◌, ◌≤◌, [], length}
use Rattle.short_list.specs.declared.ShortList.{ShortList}
use Rattle.short_list.specs.Items.{items_of}
use Rattle.vocabulary.specs.declared.parts.Attribute.{Attribute}
use Rattle.vocabulary.specs.declared.parts.State.{State}
use Rattle.vocabulary.specs.declared.parts.State.TheVariants.{Start, Opened, Listing, Bounded}

-- there is room for the attribute that is being read, and its cells fit
abbrev pub RoomIn : State → ShortList Attribute 8 → ℕ → Type 0
RoomIn Start whole size = items_of whole ≡ []
RoomIn (Opened n) whole size = length (items_of whole) < 8
RoomIn (Listing n names) whole size = (length (items_of whole) < 8) × (size * length (items_of names) ≤ 4096)
RoomIn (Bounded n cuts) whole size = (length (items_of whole) < 8) × (size * (length (items_of cuts) - 1) ≤ 4096)
