-- What becomes of a vocabulary when a field is entered.
use Rattle.std.proofs.Common.{◌≡◌, ℕ, suc, ◌+◌, ◌*◌, ◌<◌, ◌≤◌, Bool, true, false, cond, ◌||◌, leb, List, [], ◌∷◌, ◌++◌, map, length, take, drop, is_some, Some, None, Ok, Option, sym, refl, ap, ◌∙◌, ap₂, arith, le-leb}
use lib.ListN.{length-map}
use mir.Val.{bool_byte}
use Rattle.std.proofs.lemmas.List.{length_push}
use Rattle.std.proofs.lemmas.Bool.{cond-true, cond-false}
use Rattle.std.proofs.lemmas.Bool.Decides.{nat_tests}
use Rattle.refusal.specs.Answers.{refuse}
use Rattle.short_list.specs.declared.ShortList.{ShortList}
use Rattle.short_list.specs.Items.{items_of}
use Rattle.fields.specs.Words.{equal}
use Rattle.fields.specs.declared.RawField.{RawField}
use Rattle.vocabulary.specs.declared.parts.Span.{Span}
use Rattle.vocabulary.specs.declared.parts.Kind.{Kind}
use Rattle.vocabulary.specs.declared.parts.Kind.TheVariants.{Valued, Ranged}
use Rattle.vocabulary.specs.declared.parts.Attribute.{Attribute}
use Rattle.vocabulary.specs.declared.attributes.Attributes.{Attributes}
use Rattle.vocabulary.specs.Vocabulary as said
use Rattle.vocabulary.specs.Grid.{grid}
use Rattle.vocabulary.specs.Vocabulary.{place, later, is_known, names_of, count, shape_of, open_attribute, opened, in_grid, add_value, listing}
use Rattle.vocabulary.specs.Counted.{cells_in, counts_in}
use Rattle.vocabulary.specs.Joined.{joined}
use Rattle.vocabulary.specs.Parts.{name_at, names_in, kind_in, attribute_in, attributes_in, NamedBy}

-- a name is known where it has a place
pub known_place : (n : List ℕ) (ms : List (List ℕ)) → is_known n ms ≡ is_some (place n ms)
known_place n [] = refl
known_place n (m ∷ ms) = ap (λ b. equal n m || b) (known_place n ms) ∙ go (equal n m) (place n ms)
  where
    go : (b : Bool) (o : Option ℕ) → (b || is_some o) ≡ is_some (cond b (Some 0) (later o))
    go true o = refl
    go false None = refl
    go false (Some i) = refl

pub known_by : (n : List ℕ) (ms : List (List ℕ)) (o : Option ℕ) (b : Bool) → o ≡ place n ms → b ≡ is_some o → is_known n ms ≡ b
known_by n ms o b p q = known_place n ms ∙ sym (q ∙ ap is_some p)

-- the names of the attributes stand at their spans
pub names_of_lem : (bs : List ℕ) (items : List Attribute) → names_of (map (attribute_in bs) items) ≡ map (λ a. name_at bs a.name) items
names_of_lem bs [] = refl
names_of_lem bs (a ∷ items) = ap (λ r. name_at bs a.name ∷ r) (names_of_lem bs items)

-- there are as many attributes and names as the code counts
pub how_many_attributes : (bs : List ℕ) (v : Attributes) → length (attributes_in bs v) ≡ length (items_of v.items)
how_many_attributes bs v = length-map (items_of v.items) (attribute_in bs)

pub how_many_names : (bs : List ℕ) (n : ShortList Span 16) → length (names_in bs n) ≡ length (items_of n)
how_many_names bs n = length-map (items_of n) (name_at bs)

-- one more is joined to attributes where there is one
pub how_many_joined : (whole : List Attribute) (o : Option Attribute) → length (joined whole o) ≡ length whole + bool_byte (is_some o)
how_many_joined whole None = omega arith
how_many_joined whole (Some a) = length_push whole a ∙ omega arith

-- the cells of an attribute are those that the code counts
count_cells : (bs : List ℕ) (k : Kind) → count (kind_in bs k) ≡ cells_in k
count_cells bs (Valued n) = how_many_names bs n
count_cells bs (Ranged c) = refl

pub shape_of_lem : (bs : List ℕ) (items : List Attribute) → shape_of (map (attribute_in bs) items) ≡ counts_in items
shape_of_lem bs [] = refl
shape_of_lem bs (a ∷ items) = ap₂ ◌∷◌ (count_cells bs a.kind) (shape_of_lem bs items)

-- so the product that the code keeps is the grid
pub size_of : (bs : List ℕ) (v : Attributes) → grid (shape_of (attributes_in bs v)) ≡ v.size
size_of bs v = ap grid (shape_of_lem bs (items_of v.items)) ∙ sym v.sized

-- a name that is the whole content of a field stands at the field's span
pub named-at : (bs : List ℕ) (f : RawField) (name : List ℕ) (s : Span) → NamedBy bs f name → s.from ≡ f.at + 3 → s.len ≡ length f.content.now → name ≡ name_at bs s
named-at bs f name s n e l = n.name_is_the_content ∙ n.content_lies_in_the_sheet ∙ sym (ap₂ (λ (k o : ℕ). take k (drop o bs)) l e)

-- a further attribute, with its ways
module _ (at : ℕ) (whole : List said.Attribute) (n : List ℕ) (few : length whole < 8) where
  room : leb 8 (length whole) ≡ false
  room = grind (arith, nat_tests)

  pub name_known : is_known n (names_of whole) ≡ true → open_attribute at whole n ≡ refuse 22 at
  name_known e = rw (room, e)

  pub name_new : is_known n (names_of whole) ≡ false → open_attribute at whole n ≡ Ok (opened whole n)
  name_new e = rw (room, e)

-- cells that fit the grid or not
module _ (at : ℕ) (whole : List said.Attribute) (cells size k : ℕ) (p : said.Progress) (g : grid (shape_of whole) ≡ size) (c : cells ≡ k) where
  pub grid_over : 4096 < size * k → in_grid at whole cells p ≡ refuse 21 at
  grid_over h = ap₂ (λ (x y : ℕ). cond (leb (x * y) 4096) (Ok p) (refuse 21 at)) g c ∙ cond-false (leb (size * k) 4096) (Ok p) (refuse 21 at) (grind (arith, nat_tests))

  pub grid_fits : size * k ≤ 4096 → in_grid at whole cells p ≡ Ok p
  grid_fits h = ap₂ (λ (x y : ℕ). cond (leb (x * y) 4096) (Ok p) (refuse 21 at)) g c ∙ cond-true (leb (size * k) 4096) (Ok p) (refuse 21 at) (le-leb (size * k) 4096 h)

-- a further value, with its ways
module _ (at : ℕ) (whole : List said.Attribute) (n : List ℕ) (names : List (List ℕ)) (w : List ℕ) (few : length names < 16) where
  sixteen : leb 16 (length names) ≡ false
  sixteen = grind (arith, nat_tests)

  pub value_known : is_known w names ≡ true → add_value at whole n names w ≡ refuse 22 at
  value_known e = rw (sixteen, e)

  pub value_new : is_known w names ≡ false → add_value at whole n names w ≡ in_grid at whole (suc (length names)) (listing whole n (names ++ w ∷ []))
  value_new e = rw (sixteen, e)
