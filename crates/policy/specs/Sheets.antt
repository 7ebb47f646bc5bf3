-- What a policy sheet says, read with a vocabulary and an algebra.
use Rattle.std.specs.Prelude.{◌≡◌, ℕ, zero, suc, ◌+◌, ◌-◌, Bool, cond, ◌&&◌, ◌||◌, List, [], ◌∷◌, ◌++◌, length, replicate, ℤ, Some, None, Ok, Err, Option, ◌==◌, nat_le, nat_lt, slice_index_or, slice_set}
use Rattle.refusal.specs.Answers.{Answer, refuse, and_then, given}
use Rattle.fields.specs.Fields.{Framed, reading, limited, when, Said, attribute, value, cuts, way, rule, choice, range, measure, said_by}
use Rattle.algebra.specs.Tables.{Tables}
use Rattle.algebra.specs.Laws.{ShortCutLaws}
use Rattle.vocabulary.specs.Grid.{grid, cells_at}
use Rattle.vocabulary.specs.Vocabulary.{Kind, Attribute, shape_of, names_of, place}
use Rattle.vocabulary.specs.Lookup.{attribute_at, value_cell, cut_of}
use Rattle.policy.specs.Meaning.{Meaning, Lawful}
use Rattle.policy.specs.Rules.{Rule, decides}

-- ---- conditions
-- c, c + 1 and so on, n of them
abbrev pub cells_from : ℕ → ℕ → List ℕ
cells_from c zero = []
cells_from c (suc n) = c ∷ cells_from (suc c) n

-- the cells from one cut up to another, where the first is the lower
abbrev pub between : Option ℕ → Option ℕ → Option (List ℕ)
between None o = None
between (Some i) None = None
between (Some i) (Some j) = when (nat_lt i j) (cells_from i (j - i))

-- the cells from one cut up to, not including, another
abbrev pub range_cells : Kind → ℤ → ℤ → Option (List ℕ)
range_cells k x y = between (cut_of k x) (cut_of k y)

-- the cell of a value
abbrev pub choice_cells : Kind → List ℕ → Option (List ℕ)
choice_cells k w = elim (value_cell k w) [ None ↦ None | Some c ↦ Some (c ∷ []) ]

-- conditions on one attribute are alternatives
abbrev pub adding : Rule → ℕ → List ℕ → Rule
adding r i cs = record { decision = r.decision; named = slice_set r.named i (slice_index_or r.named i [] ++ cs) }

-- ---- reading
-- how far a sheet has been read: its way, the rules that are whole, and the rule that is being read
pub data Progress : Type 0 where
  start : Progress
  headed : ℕ → Progress
  ruled : ℕ → List Rule → Rule → Progress

-- which tag may follow
abbrev pub may_follow : Progress → ℕ → Bool
may_follow start tag = tag == 0x1F
may_follow (headed w) tag = tag == 0x20
may_follow (ruled w rules r) tag = tag == 0x20 || (tag == 0x21 || tag == 0x22)

-- the way stands first, and only there
abbrev pub enter_way : ℕ → Progress → ℕ → Answer Progress
enter_way at start w = Ok (headed w)
enter_way at (headed v) w = refuse 11 at
enter_way at (ruled v rules r) w = refuse 11 at

-- a rule with a decision from 1 to k - 1, and no condition yet
abbrev pub open_rule : List Attribute → ℕ → ℕ → ℕ → List Rule → ℕ → Answer Progress
open_rule v k at w rules d =
    cond (nat_le 1 d && nat_lt d k) (Ok (ruled w rules (record { decision = d; named = replicate (length v) [] }))) (refuse 13 at)

-- a rule follows the way or another rule
abbrev pub enter_rule : List Attribute → ℕ → ℕ → Progress → ℕ → Answer Progress
enter_rule v k at start d = refuse 11 at
enter_rule v k at (headed w) d = open_rule v k at w [] d
enter_rule v k at (ruled w rules r) d = open_rule v k at w (rules ++ r ∷ []) d

-- the attribute is known, and the cells are its own
abbrev pub add_condition : List Attribute → ℕ → ℕ → List Rule → Rule → List ℕ → (Kind → Option (List ℕ)) → Answer Progress
add_condition v at w rules r a cells =
    given (place a (names_of v)) 23 at (λ i. given (cells (attribute_at v i).kind) 24 at (λ cs. Ok (ruled w rules (adding r i cs))))

-- a condition follows the rule that it belongs to
abbrev pub enter_condition : List Attribute → ℕ → Progress → List ℕ → (Kind → Option (List ℕ)) → Answer Progress
enter_condition v at start a cells = refuse 11 at
enter_condition v at (headed w) a cells = refuse 11 at
enter_condition v at (ruled w rules r) a cells = add_condition v at w rules r a cells

-- what a field adds to the sheet so far; fields of vocabularies and requests do not belong here
abbrev pub enter : List Attribute → ℕ → ℕ → Progress → Said → Answer Progress
enter v k at p (way w) = enter_way at p w
enter v k at p (rule d) = enter_rule v k at p d
enter v k at p (choice a w) = enter_condition v at p a (λ kind. choice_cells kind w)
enter v k at p (range a x y) = enter_condition v at p a (λ kind. range_cells kind x y)
enter v k at p (attribute n) = refuse 11 at
enter v k at p (value w) = refuse 11 at
enter v k at p (cuts zs) = refuse 11 at
enter v k at p (measure a x) = refuse 11 at

-- one field
abbrev pub step : List Attribute → ℕ → ℕ → Progress → Framed → Answer Progress
step v k at p f = cond (may_follow p f.tag) (and_then (said_by at f) (enter v k at p)) (refuse 11 at)

-- way and rules, once the sheet has ended
abbrev pub finish : ℕ → Progress → Answer (ℕ × List Rule)
finish at start = refuse 10 at
finish at (headed w) = Ok (w, [])
finish at (ruled w rules r) = Ok (w, rules ++ r ∷ [])

-- the way and the rules of a policy sheet
abbrev pub policy_of : List Attribute → ℕ → List ℕ → Answer (ℕ × List Rule)
policy_of v k bs = limited bs (and_then (reading (step v k) 0 start 0 bs) (finish (length bs)))

-- reading s and then t is reading t from the progress after s
abbrev pub ReadingGoesOn : Type 0
ReadingGoesOn =
    (v : List Attribute) (k : ℕ) (s t : List ℕ) (at : ℕ) (p q : Progress) → reading (step v k) at p 0 s ≡ Ok q
    → reading (step v k) at p 0 (s ++ t) ≡ reading (step v k) (at + length s) q 0 t

-- ---- meaning
-- what the rules of a sheet decide at cells; nothing where it is refused
abbrev pub decided_at : Tables → Answer (ℕ × List Rule) → List ℕ → ℕ
decided_at t (Ok x) cells = decides t x.0 x.1 cells
decided_at t (Err e) cells = 0

-- a sheet means what its rules decide at the cells of each grid number
abbrev pub sheet_meaning : Tables → List Attribute → List ℕ → Meaning
sheet_meaning t v bs = record {
  shape = shape_of v;
  size = t.size;
  decision = λ g. cond (nat_lt g (grid (shape_of v))) (decided_at t (policy_of v t.size bs) (cells_at (shape_of v) g)) 0;
}

-- in every algebra each decision is a code, and 0 beyond the grid
abbrev pub SheetsMeanCodes : Type 0
SheetsMeanCodes = (t : Tables) → ShortCutLaws t → (v : List Attribute) (bs : List ℕ) → Lawful (sheet_meaning t v bs)
