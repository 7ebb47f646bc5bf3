-- Looking things up in a vocabulary.
use Rattle.std.specs.Prelude.{ℕ, Bool, false, cond, List, [], ◌∷◌, ℤ, pos, negsuc, Some, None, Option, ◌==◌, slice_index_or}
use Rattle.vocabulary.specs.Cells.{cell_of}
use Rattle.vocabulary.specs.Vocabulary.{Kind, valued, ranged, Attribute, named, place, later}

-- no attribute: it has no name and no values
abbrev pub no_attribute : Attribute
no_attribute = named [] (valued [])

-- attribute i; none past the last one
abbrev pub attribute_at : List Attribute → ℕ → Attribute
attribute_at v i = slice_index_or v i no_attribute

-- the cell of a value
abbrev pub value_cell : Kind → List ℕ → Option ℕ
value_cell (valued names) w = place w names
value_cell (ranged zs) w = None

-- the cell of a number
abbrev pub number_cell : Kind → ℤ → Option ℕ
number_cell (valued names) x = None
number_cell (ranged zs) x = cell_of zs x

-- the cuts of an attribute that has cuts
abbrev pub cuts_if : Kind → Option (List ℤ)
cuts_if (valued names) = None
cuts_if (ranged zs) = Some zs

-- two whole numbers are equal
abbrev pub same_number : ℤ → ℤ → Bool
same_number (pos a) (pos b) = a == b
same_number (pos a) (negsuc b) = false
same_number (negsuc a) (pos b) = false
same_number (negsuc a) (negsuc b) = a == b

-- which cut a number is
abbrev pub cut_place : ℤ → List ℤ → Option ℕ
cut_place x [] = None
cut_place x (z ∷ zs) = cond (same_number x z) (Some 0) (later (cut_place x zs))

-- which of an attribute's cuts a number is
abbrev pub cut_of : Kind → ℤ → Option ℕ
cut_of (valued names) x = None
cut_of (ranged zs) x = cut_place x zs

-- what names cell c in a request: a value's name, or the cut at which the cell begins
pub data Label : Type 0 where
  by_name : List ℕ → Label
  by_number : ℤ → Label

-- what a request says for a cell: its value, or the lower end of its range
abbrev pub label_of : Kind → ℕ → Label
label_of (valued names) c = by_name (slice_index_or names c [])
label_of (ranged zs) c = by_number (slice_index_or zs c (pos 0))
