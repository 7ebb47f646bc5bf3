-- The code's parts of a vocabulary, in the words of the formats.
use Rattle.std.specs.Prelude.{◌≡◌, ℕ, ◌+◌, ◌≤◌, List, map, length, take, drop, ℤ, Ok, Err, Result}
use Rattle.refusal.specs.declared.Refusal.{Refusal}
use Rattle.refusal.specs.Answers.{Answer, told_by}
use Rattle.short_list.specs.declared.ShortList.{ShortList}
use Rattle.short_list.specs.Items.{items_of}
use Rattle.fields.specs.declared.RawField.{RawField}
use Rattle.vocabulary.specs.declared.parts.Span.{Span}
use Rattle.vocabulary.specs.declared.parts.Kind.{Kind}
use Rattle.vocabulary.specs.declared.parts.Kind.TheVariants.{Valued, Ranged}
use Rattle.vocabulary.specs.declared.parts.Attribute.{Attribute}
use Rattle.vocabulary.specs.declared.attributes.Attributes.{Attributes}
use Rattle.vocabulary.specs.declared.parts.State.{State}
use Rattle.vocabulary.specs.declared.parts.State.TheVariants.{Start, Opened, Listing, Bounded}
use Rattle.vocabulary.specs.declared.attributes.Reader.{Reader}
use Rattle.vocabulary.specs.Vocabulary as said

-- the name that stands at a span of the sheet
abbrev pub name_at : List ℕ → Span → List ℕ
name_at bs s = take s.len (drop s.from bs)

-- the names that spans cut out of the bytes
abbrev pub names_in : List ℕ → ShortList Span 16 → List (List ℕ)
names_in bs n = map (name_at bs) (items_of n)

-- the cuts that count
abbrev pub cuts_in : ShortList ℤ 17 → List ℤ
cuts_in c = items_of c

-- the kind of an attribute, read from the bytes
abbrev pub kind_in : List ℕ → Kind → said.Kind
kind_in bs (Valued n) = said.valued (names_in bs n)
kind_in bs (Ranged c) = said.ranged (cuts_in c)

-- an attribute, read from the bytes
abbrev pub attribute_in : List ℕ → Attribute → said.Attribute
attribute_in bs a = said.named (name_at bs a.name) (kind_in bs a.kind)

-- the attributes that count, read from the bytes
abbrev pub attributes_in : List ℕ → Attributes → List said.Attribute
attributes_in bs v = map (attribute_in bs) (items_of v.items)

-- how far reading has come, read from the bytes
abbrev pub progress_in : List ℕ → List said.Attribute → State → said.Progress
progress_in bs whole Start = said.start
progress_in bs whole (Opened n) = said.opened whole (name_at bs n)
progress_in bs whole (Listing n names) = said.listing whole (name_at bs n) (names_in bs names)
progress_in bs whole (Bounded n cuts) = said.bounded whole (name_at bs n) (cuts_in cuts)

-- how far the code has read
abbrev pub progress : Reader → said.Progress
progress r = progress_in r.sheet.now (attributes_in r.sheet.now r.whole) r.state

-- a reader of the sheet after a step, or its refusal, is as laid down
abbrev pub Stepped : List ℕ → Answer said.Progress → Result (Unit {0}) Refusal → Reader → Type 0
Stepped bs a (Ok u) r = (a ≡ Ok (progress r)) × (r.sheet.now ≡ bs)
Stepped bs a (Err e) r = a ≡ Err (told_by e)

-- the name is the whole content of a field, which lies in the sheet
pub record NamedBy (bs : List ℕ) (f : RawField) (name : List ℕ) : Type 0 where
  pub name_is_the_content : name ≡ f.content.now
  pub content_lies_in_the_sheet : f.content.now ≡ take (length f.content.now) (drop (f.at + 3) bs)
  pub ends_in_time : f.at + 3 + length f.content.now ≤ 65535
