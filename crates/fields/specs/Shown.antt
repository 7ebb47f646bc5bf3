-- The code's fields in the words of the formats.
use Rattle.std.specs.Prelude.{◌≡◌, ℕ, ◌+◌, ◌/◌, ◌≤◌, List, length, take, drop}
use Rattle.fields.specs.declared.Field.{Field}
use Rattle.fields.specs.declared.Field.TheVariants.{Attribute, Value, Cuts, Way, Rule, Choice, Range, Measure}
use Rattle.fields.specs.declared.RawField.{RawField}
use Rattle.fields.specs.Words.{number_of, numbers_of}
use Rattle.fields.specs.Ways.{way_number}
use Rattle.fields.specs.Fields.{Framed, framed, Said, attribute, value, cuts, way, rule, choice, range, measure}

-- what a field of the code says
abbrev pub said : Field → Said
said (Attribute n) = attribute n.now
said (Value n) = value n.now
said (Cuts c) = cuts (numbers_of c.now)
said (Way w) = way (way_number w)
said (Rule b) = rule b
said (Choice a v) = choice a.now v.now
said (Range a f t) = range a.now (number_of f.now) (number_of t.now)
said (Measure a n) = measure a.now (number_of n.now)

-- a name or cuts that a field says are its whole content
abbrev pub PartsFit : List ℕ → Field → Type 0
PartsFit c (Attribute n) = n.now ≡ c
PartsFit c (Value n) = n.now ≡ c
PartsFit c (Cuts b) = (b.now ≡ c) × (length c / 4 ≤ 17)
PartsFit c (Way w) = Unit {0}
PartsFit c (Rule b) = Unit {0}
PartsFit c (Choice a v) = Unit {0}
PartsFit c (Range a f t) = Unit {0}
PartsFit c (Measure a n) = Unit {0}

-- tag and content of a field as it lies in a sheet
abbrev pub bare : RawField → Framed
bare f = framed f.tag f.content.now

-- the field that the code finds at a place, and the place after it
abbrev pub found : RawField → Framed × ℕ
found f = (bare f, f.next)

-- a field that was read at a place of a sheet ends within it
pub record EndsWithin (bs : List ℕ) (at : ℕ) (f : RawField) : Type 0 where
  pub place_is : f.at ≡ at
  pub moves_on : at + 3 ≤ f.next
  pub within : f.next ≤ length bs
  pub content_lies : f.content.now ≡ take (length f.content.now) (drop (at + 3) bs)
  pub content_fits : at + 3 + length f.content.now ≡ f.next
