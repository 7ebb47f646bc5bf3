-- Vocabularies: attributes by name, each with value names or rising cuts, and what a vocabulary sheet says.
use Rattle.std.specs.Prelude.{◌≡◌, ℕ, suc, ◌+◌, ◌-◌, ◌*◌, ◌≤◌, Bool, true, false, cond, ◌||◌, ◌≢◌, List, [], ◌∷◌, ◌++◌, map, length, ℤ, Some, None, Ok, Option, FitsSigned, ◌==◌, nat_le}
use Rattle.std.specs.Int.{w32}
use Rattle.std.specs.List.{AllByRecursion}
use Rattle.refusal.specs.Answers.{Answer, refuse, and_then}
use Rattle.fields.specs.Words.{is_name, equal, rises}
use Rattle.fields.specs.Fields.{Framed, reading, limited, Said, attribute, value, cuts, way, rule, choice, range, measure, said_by}
use Rattle.vocabulary.specs.Grid.{grid}

-- an attribute has named values or rising cuts
pub data Kind : Type 0 where
  valued : List (List ℕ) → Kind
  ranged : List ℤ → Kind

-- an attribute: its name and its kind
pub record Attribute : Type 0 where
  pub name : List ℕ
  pub kind : Kind

-- the attribute of a name and a kind
abbrev pub named : List ℕ → Kind → Attribute
named n k = record { name = n; kind = k }

-- each value is a cell; n cuts bound n - 1 cells
abbrev pub count : Kind → ℕ
count (valued names) = length names
count (ranged zs) = length zs - 1

-- how many cells each attribute has
abbrev pub shape_of : List Attribute → List ℕ
shape_of v = map (λ a. count a.kind) v

-- the names of the attributes
abbrev pub names_of : List Attribute → List (List ℕ)
names_of v = map (λ a. a.name) v

-- one place further on
abbrev pub later : Option ℕ → Option ℕ
later None = None
later (Some i) = Some (suc i)

-- where a name stands in a list of names
abbrev pub place : List ℕ → List (List ℕ) → Option ℕ
place n [] = None
place n (m ∷ ms) = cond (equal n m) (Some 0) (later (place n ms))

-- the name is among those given
abbrev pub is_known : List ℕ → List (List ℕ) → Bool
is_known n [] = false
is_known n (m ∷ ms) = equal n m || is_known n ms

-- ---- reading
-- how far a vocabulary has been read: the attributes that are whole, and one that is being read
pub data Progress : Type 0 where
  start : Progress
  opened : List Attribute → List ℕ → Progress
  listing : List Attribute → List ℕ → List (List ℕ) → Progress
  bounded : List Attribute → List ℕ → List ℤ → Progress

-- which tag may follow
abbrev pub may_follow : Progress → ℕ → Bool
may_follow start tag = tag == 0x10
may_follow (opened whole n) tag = tag == 0x11 || tag == 0x12
may_follow (listing whole n names) tag = tag == 0x10 || tag == 0x11
may_follow (bounded whole n zs) tag = tag == 0x10

-- the attributes, with the one being read once it has cells
abbrev pub whole_so_far : Progress → List Attribute
whole_so_far start = []
whole_so_far (opened whole n) = whole
whole_so_far (listing whole n names) = whole ++ named n (valued names) ∷ []
whole_so_far (bounded whole n zs) = whole ++ named n (ranged zs) ∷ []

-- a further attribute: at most eight, each with a name of its own
abbrev pub open_attribute : ℕ → List Attribute → List ℕ → Answer Progress
open_attribute at whole n =
    cond (nat_le 8 (length whole)) (refuse 20 at)
    (cond (is_known n (names_of whole)) (refuse 22 at) (Ok (opened whole n)))

-- the grid has at most 4,096 numbers
abbrev pub in_grid : ℕ → List Attribute → ℕ → Progress → Answer Progress
in_grid at whole cells p = cond (nat_le (grid (shape_of whole) * cells) 4096) (Ok p) (refuse 21 at)

-- a further value: at most sixteen, each with a name of its own
abbrev pub add_value : ℕ → List Attribute → List ℕ → List (List ℕ) → List ℕ → Answer Progress
add_value at whole n names w =
    cond (nat_le 16 (length names)) (refuse 20 at)
    (cond (is_known w names) (refuse 22 at) (in_grid at whole (suc (length names)) (listing whole n (names ++ w ∷ []))))

-- a value follows its attribute or another value
abbrev pub enter_value : ℕ → Progress → List ℕ → Answer Progress
enter_value at start w = refuse 11 at
enter_value at (opened whole n) w = add_value at whole n [] w
enter_value at (listing whole n names) w = add_value at whole n names w
enter_value at (bounded whole n zs) w = refuse 11 at

-- cuts follow their attribute, once
abbrev pub enter_cuts : ℕ → Progress → List ℤ → Answer Progress
enter_cuts at start zs = refuse 11 at
enter_cuts at (opened whole n) zs = in_grid at whole (length zs - 1) (bounded whole n zs)
enter_cuts at (listing whole n names) zs = refuse 11 at
enter_cuts at (bounded whole n ys) zs = refuse 11 at

-- what a field adds to the vocabulary so far; fields of policies and requests do not belong here
abbrev pub enter : ℕ → Progress → Said → Answer Progress
enter at p (attribute n) = open_attribute at (whole_so_far p) n
enter at p (value w) = enter_value at p w
enter at p (cuts zs) = enter_cuts at p zs
enter at p (way b) = refuse 11 at
enter at p (rule b) = refuse 11 at
enter at p (choice a w) = refuse 11 at
enter at p (range a x y) = refuse 11 at
enter at p (measure a x) = refuse 11 at

-- one field: may its tag follow, what does it say, and what becomes of the vocabulary
abbrev pub step : ℕ → Progress → Framed → Answer Progress
step at p f = cond (may_follow p f.tag) (and_then (said_by at f) (enter at p)) (refuse 11 at)

-- a vocabulary may end once its last attribute has cells
abbrev pub finish : ℕ → Progress → Answer (List Attribute)
finish at start = refuse 10 at
finish at (opened whole n) = refuse 10 at
finish at (listing whole n names) = Ok (whole_so_far (listing whole n names))
finish at (bounded whole n zs) = Ok (whole_so_far (bounded whole n zs))

-- what a vocabulary sheet says
abbrev pub vocabulary_of : List ℕ → Answer (List Attribute)
vocabulary_of bs = limited bs (and_then (reading step 0 start 0 bs) (finish (length bs)))

-- reading s and then t is reading t from the progress after s
abbrev pub ReadingGoesOn : Type 0
ReadingGoesOn = (s t : List ℕ) (at : ℕ) (p q : Progress) → reading step at p 0 s ≡ Ok q → reading step at p 0 (s ++ t) ≡ reading step (at + length s) q 0 t

-- ---- what is asked of a vocabulary
-- no two are the same
abbrev pub Distinct : List (List ℕ) → Type 0
Distinct [] = Unit {0}
Distinct (x ∷ xs) = AllByRecursion (λ y. y ≢ x) xs × Distinct xs

-- 1 to 16 distinct names, or 2 to 17 rising cuts
abbrev pub ProperKind : Kind → Type 0
ProperKind (valued names) = (1 ≤ length names) × (length names ≤ 16) × AllByRecursion (λ n. is_name n ≡ true) names × Distinct names
ProperKind (ranged zs) = (2 ≤ length zs) × (length zs ≤ 17) × AllByRecursion (FitsSigned w32) zs × (rises zs ≡ true)

-- names are proper and distinct, cuts rise, and the grid fits
pub record Proper (v : List Attribute) : Type 0 where
  pub eight_attributes_at_most : length v ≤ 8
  pub names_are_names : AllByRecursion (λ a. is_name a.name ≡ true) v
  pub names_are_distinct : Distinct (names_of v)
  pub kinds_are_proper : AllByRecursion (λ a. ProperKind a.kind) v
  pub grid_fits : grid (shape_of v) ≤ 4096

-- a vocabulary that is read is proper and has an attribute
pub record ReadProper (v : List Attribute) : Type 0 where
  pub is_proper : Proper v
  pub one_attribute_at_least : 1 ≤ length v

-- a vocabulary that is read has what every vocabulary must have
abbrev pub WhatIsReadIsProper : Type 0
WhatIsReadIsProper = (bs : List ℕ) (v : List Attribute) → vocabulary_of bs ≡ Ok v → ReadProper v
