-- Requests: what one says, and one for any cells.
use Rattle.std.specs.Prelude.{◌≡◌, ℕ, ◌+◌, ◌≤◌, cond, ◌||◌, List, [], ◌∷◌, ◌++◌, length, replicate, Some, None, Ok, Option, ◌==◌, slice_index_or, slice_set}
use Rattle.refusal.specs.Answers.{Answer, refuse, and_then, given}
use Rattle.fields.specs.Words.{number_bytes}
use Rattle.fields.specs.Fields.{Framed, framed, sheet_bytes, reading, limited, Said, attribute, value, cuts, way, rule, choice, range, measure, said_by}
use Rattle.vocabulary.specs.Grid.{Cells}
use Rattle.vocabulary.specs.Vocabulary.{Kind, Attribute, shape_of, names_of, place, Proper}
use Rattle.vocabulary.specs.Lookup.{attribute_at, value_cell, number_cell, Label, by_name, by_number, label_of}

-- for each attribute its cell, once it is given
abbrev pub Given : Type 0
Given = List (Option ℕ)

-- an attribute is given once
abbrev pub give_once : ℕ → Given → ℕ → ℕ → Option ℕ → Answer Given
give_once at st i c None = Ok (slice_set st i (Some c))
give_once at st i c (Some d) = refuse 25 at

-- attribute i has the cell, and it was not given before
abbrev pub given_cell : ℕ → Given → ℕ → Option ℕ → Answer Given
given_cell at st i o = given o 24 at (λ c. give_once at st i c (slice_index_or st i None))

-- the attribute is known, it has the cell, and it was not given before
abbrev pub give : List Attribute → ℕ → Given → List ℕ → (Kind → Option ℕ) → Answer Given
give v at st a cell =
    given (place a (names_of v)) 23 at
    (λ i. given_cell at st i (cell (attribute_at v i).kind))

-- what a field gives; only choices and measures belong into a request
abbrev pub take_in : List Attribute → ℕ → Given → Said → Answer Given
take_in v at st (choice a w) = give v at st a (λ k. value_cell k w)
take_in v at st (measure a x) = give v at st a (λ k. number_cell k x)
take_in v at st (attribute n) = refuse 11 at
take_in v at st (value w) = refuse 11 at
take_in v at st (cuts zs) = refuse 11 at
take_in v at st (way b) = refuse 11 at
take_in v at st (rule b) = refuse 11 at
take_in v at st (range a x y) = refuse 11 at

-- one field of a request
abbrev pub ask : List Attribute → ℕ → Given → Framed → Answer Given
ask v at st f = cond (f.tag == 0x31 || f.tag == 0x32) (and_then (said_by at f) (take_in v at st)) (refuse 11 at)

-- every attribute is given
abbrev pub all_given : ℕ → Given → Answer (List ℕ)
all_given end [] = Ok []
all_given end (None ∷ st) = refuse 26 end
all_given end (Some c ∷ st) = and_then (all_given end st) (λ cs. Ok (c ∷ cs))

-- no attribute has its cell yet
abbrev pub none_given : List Attribute → Given
none_given v = replicate (length v) None

-- the cells that a request gives, attribute by attribute
abbrev pub request_of : List Attribute → List ℕ → Answer (List ℕ)
request_of v bs = limited bs (and_then (reading (ask v) 0 (none_given v) 0 bs) (all_given (length bs)))

-- a request that is read gives cells of the shape
abbrev pub ReadGivesCells : Type 0
ReadGivesCells = (v : List Attribute) (bs cells : List ℕ) → request_of v bs ≡ Ok cells → Cells (shape_of v) cells

-- reading s and then t is reading t from what is given after s
abbrev pub ReadingGoesOn : Type 0
ReadingGoesOn =
    (v : List Attribute) (s t : List ℕ) (at : ℕ) (x y : Given) → reading (ask v) at x 0 s ≡ Ok y
    → reading (ask v) at x 0 (s ++ t) ≡ reading (ask v) (at + length s) y 0 t

-- ---- a request for cells: a value by its name, a number by the cut at which its cell begins
abbrev pub field_by : List ℕ → Label → Framed
field_by n (by_name w) = framed 0x31 (n ++ 0x3D ∷ w)
field_by n (by_number z) = framed 0x32 (n ++ 0x3D ∷ number_bytes z)

-- the field that gives an attribute the cell
abbrev pub field_for : List ℕ → Kind → ℕ → Framed
field_for n k c = field_by n (label_of k c)

-- one field for each attribute, in the order of the vocabulary
abbrev pub fields_for : List Attribute → List ℕ → List Framed
fields_for [] cells = []
fields_for (a ∷ v) [] = []
fields_for (a ∷ v) (c ∷ cells) = field_for a.name a.kind c ∷ fields_for v cells

-- the request laid down for a list of cells
abbrev pub request_for : List Attribute → List ℕ → List ℕ
request_for v cells = sheet_bytes (fields_for v cells)

-- a request written for cells is read as these cells, and 288 bytes always do
pub record ReadsBack (v : List Attribute) (cells : List ℕ) : Type 0 where
  pub reads_as_its_cells : request_of v (request_for v cells) ≡ Ok cells
  pub fits_in_288_bytes : length (request_for v cells) ≤ 288

-- the request written for cells of a proper vocabulary is read as these cells
abbrev pub RequestsReadBack : Type 0
RequestsReadBack = (v : List Attribute) (cells : List ℕ) → Proper v → Cells (shape_of v) cells → ReadsBack v cells

-- ---- order
-- the same fields in another order
pub data Reordered : List Framed → List Framed → Type 0 where
  none : Reordered [] []
  keep : (f : Framed) {fs gs : List Framed} → Reordered fs gs → Reordered (f ∷ fs) (f ∷ gs)
  swap : (f g : Framed) (fs : List Framed) → Reordered (f ∷ g ∷ fs) (g ∷ f ∷ fs)
  then : {fs gs hs : List Framed} → Reordered fs gs → Reordered gs hs → Reordered fs hs

-- what a request gives does not depend on the order of its fields
abbrev pub OrderDoesNotMatter : Type 0
OrderDoesNotMatter =
    (v : List Attribute) (fs gs : List Framed) (cells : List ℕ) → Reordered fs gs → request_of v (sheet_bytes fs) ≡ Ok cells → request_of v (sheet_bytes gs) ≡ Ok cells
