-- A vocabulary that has been read, in the words of the formats.
use Rattle.std.specs.Prelude.{◌≡◌, ℕ, List, Ok, Err, Result}
use Rattle.short_list.specs.declared.ShortList.{ShortList}
use Rattle.short_list.specs.Items.{items_of}
use Rattle.refusal.specs.declared.Refusal.{Refusal}
use Rattle.refusal.specs.Answers.{told_by}
use Rattle.vocabulary.specs.declared.record.Vocabulary.{Vocabulary}
use Rattle.vocabulary.specs.declared.record.Shape.{Shape}
use Rattle.vocabulary.specs.Vocabulary.{Attribute, vocabulary_of}
use Rattle.vocabulary.specs.declared.record.Label.{Label}
use Rattle.vocabulary.specs.declared.record.Label.TheVariants.{Name, Number}
use Rattle.vocabulary.specs.Lookup as lookup
use Rattle.vocabulary.specs.Parts.{attributes_in}

-- the attributes of a vocabulary
abbrev pub attributes_of : Vocabulary → List Attribute
attributes_of v = attributes_in v.sheet.now v.attributes

-- what a label of the code names
abbrev pub label_shown : Label → lookup.Label
label_shown (Name n) = lookup.by_name n.now
label_shown (Number x) = lookup.by_number x

-- the cell counts of a shape
abbrev pub counts_of : Shape → List ℕ
counts_of s = items_of s.counts

-- the sheet was read in place, or refused and the vocabulary is as it was
abbrev pub ReadInPlace : Vocabulary → Result (Unit {0}) Refusal → Vocabulary → Type 0
ReadInPlace before (Ok u) after = (after.sheet.now ≡ before.sheet.now) × (vocabulary_of before.sheet.now ≡ Ok (attributes_of after))
ReadInPlace before (Err e) after = (after ≡ before) × (vocabulary_of before.sheet.now ≡ Err (told_by e))

-- the cells that a list holds, in order
abbrev pub cells_of : ShortList ℕ 8 → List ℕ
cells_of l = items_of l
