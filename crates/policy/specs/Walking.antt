-- A policy sheet walked for one list of cells: of its rules only what they decide there is kept.
use Rattle.std.specs.Prelude.{◌≡◌, ℕ, Bool, true, false, cond, ◌&&◌, ◌||◌, List, [], ◌∷◌, length, replicate, Some, None, Ok, Option, ◌==◌, nat_le, nat_lt, slice_index, slice_index_or, slice_set}
use Rattle.refusal.specs.Answers.{Answer, refuse, and_then, given}
use Rattle.fields.specs.Fields.{Framed, reading, limited, Said, attribute, value, cuts, way, rule, choice, range, measure, said_by}
use Rattle.algebra.specs.Tables.{Tables}
use Rattle.vocabulary.specs.Vocabulary.{Kind, Attribute, names_of, place}
use Rattle.vocabulary.specs.Lookup.{attribute_at}
use Rattle.policy.specs.Rules.{is_among, decides}
use Rattle.policy.specs.Sheets.{choice_cells, range_cells, policy_of}

-- the decisions so far, combined as far as they can be: whether there are none, and their value
pub record Tally : Type 0 where
  pub none : Bool
  pub value : ℕ

-- no rule has matched yet
abbrev pub no_tally : Tally
no_tally = record { none = true; value = 0 }

-- the value with one more decision: the first, the sum, the only one, the sum of the negations
abbrev pub tallied : Tables → ℕ → Tally → ℕ → ℕ
tallied t w y d =
    cond (w == 1) (cond y.none d y.value)
    (cond (w == 2) (cond y.none d (t.sum y.value d))
    (cond (w == 3) (cond y.none d 0)
    (cond y.none (t.negation d) (t.sum y.value (t.negation d)))))

-- what is known of each attribute's cell: nothing, or whether a condition names it
abbrev pub Seen : Type 0
Seen = List (Option Bool)

-- no condition misses its cell
abbrev pub all_met : Seen → Bool
all_met [] = true
all_met (None ∷ rest) = all_met rest
all_met (Some b ∷ rest) = b && all_met rest

-- an attribute was named, and its cell is among those named
abbrev pub was_met : Option Bool → Bool
was_met None = false
was_met (Some b) = b

-- a rule that ends counts if it matches
abbrev pub closed : Tables → ℕ → Tally → ℕ → Seen → Tally
closed t w y d seen = cond (all_met seen) (record { none = false; value = tallied t w y d }) y

-- how far the walk has come: its way, the rules that are whole, and the rule that is being read
pub data Walked : Type 0 where
  begun : Walked
  headed : ℕ → Walked
  judging : ℕ → Tally → ℕ → Seen → Walked

-- which tag may follow
abbrev pub may_follow : Walked → ℕ → Bool
may_follow begun tag = tag == 0x1F
may_follow (headed w) tag = tag == 0x20
may_follow (judging w y d seen) tag = tag == 0x20 || (tag == 0x21 || tag == 0x22)

-- the way stands first, and only there
abbrev pub enter_way : ℕ → Walked → ℕ → Answer Walked
enter_way at begun w = Ok (headed w)
enter_way at (headed v) w = refuse 11 at
enter_way at (judging v y d seen) w = refuse 11 at

-- a rule with a decision from 1 to k - 1, of whose cells nothing is known
abbrev pub open_rule : ℕ → ℕ → ℕ → ℕ → Tally → ℕ → Answer Walked
open_rule n k at w y d = cond (nat_le 1 d && nat_lt d k) (Ok (judging w y d (replicate n None))) (refuse 13 at)

-- a rule closes the one before it and opens its own
abbrev pub enter_rule : Tables → ℕ → ℕ → Walked → ℕ → Answer Walked
enter_rule t n at begun d = refuse 11 at
enter_rule t n at (headed w) d = open_rule n t.size at w no_tally d
enter_rule t n at (judging w y e seen) d = open_rule n t.size at w (closed t w y e seen) d

-- a condition on attribute i names these cells
abbrev pub noted : List ℕ → Seen → ℕ → List ℕ → Seen
noted cells seen i cs = slice_set seen i (Some (was_met (slice_index_or seen i None) || is_among (slice_index cells i) cs))

-- a condition notes whether the cell of its attribute is among those named
abbrev pub enter_condition : List Attribute → List ℕ → ℕ → Walked → List ℕ → (Kind → Option (List ℕ)) → Answer Walked
enter_condition v cells at begun a named = refuse 11 at
enter_condition v cells at (headed w) a named = refuse 11 at
enter_condition v cells at (judging w y d seen) a named =
    given (place a (names_of v)) 23 at (λ i. given (named (attribute_at v i).kind) 24 at (λ cs. Ok (judging w y d (noted cells seen i cs))))

-- what a field changes in the walk; fields of vocabularies and requests do not belong here
abbrev pub enter : Tables → List Attribute → List ℕ → ℕ → Walked → Said → Answer Walked
enter t v cells at p (way w) = enter_way at p w
enter t v cells at p (rule d) = enter_rule t (length v) at p d
enter t v cells at p (choice a w) = enter_condition v cells at p a (λ kind. choice_cells kind w)
enter t v cells at p (range a x y) = enter_condition v cells at p a (λ kind. range_cells kind x y)
enter t v cells at p (attribute n) = refuse 11 at
enter t v cells at p (value w) = refuse 11 at
enter t v cells at p (cuts zs) = refuse 11 at
enter t v cells at p (measure a x) = refuse 11 at

-- one field
abbrev pub step : Tables → List Attribute → List ℕ → ℕ → Walked → Framed → Answer Walked
step t v cells at p f = cond (may_follow p f.tag) (and_then (said_by at f) (enter t v cells at p)) (refuse 11 at)

-- the fourth way negates the sum
abbrev pub settled : Tables → ℕ → Tally → ℕ
settled t w y = cond (w == 1) y.value (cond (w == 2) y.value (cond (w == 3) y.value (t.negation y.value)))

-- the decision once the sheet has ended
abbrev pub finish : Tables → ℕ → Walked → Answer ℕ
finish t at begun = refuse 10 at
finish t at (headed w) = Ok (settled t w no_tally)
finish t at (judging w y d seen) = Ok (settled t w (closed t w y d seen))

-- what a walk through a sheet answers
abbrev pub walk_of : Tables → List Attribute → List ℕ → List ℕ → Answer ℕ
walk_of t v cells bs = limited bs (and_then (reading (step t v cells) 0 begun 0 bs) (finish t (length bs)))

-- it answers what the rules of the sheet decide at the cells, and refuses what the reader refuses
abbrev pub WalkDecides : Type 0
WalkDecides =
    (t : Tables) (v : List Attribute) (cells bs : List ℕ) → length cells ≡ length v
    → walk_of t v cells bs ≡ and_then (policy_of v t.size bs) (λ x. Ok (decides t x.0 x.1 cells))
