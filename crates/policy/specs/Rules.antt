-- Rules, and what a list of rules decides. No bytes stand here.
use Rattle.std.specs.Prelude.{ℕ, Bool, true, false, cond, ◌&&◌, ◌||◌, List, [], ◌∷◌, map, filter, ◌==◌}
use Rattle.algebra.specs.Tables.{Tables}

-- a rule: its decision, and for each attribute the cells that its conditions name
pub record Rule : Type 0 where
  pub decision : ℕ
  pub named : List (List ℕ)

-- a cell is one of these
abbrev pub is_among : ℕ → List ℕ → Bool
is_among c [] = false
is_among c (d ∷ ds) = c == d || is_among c ds

-- a cell is allowed if it is among those named; where none is named every cell is
abbrev pub allows : List ℕ → ℕ → Bool
allows [] c = true
allows (d ∷ ds) c = is_among c (d ∷ ds)

-- every attribute's cell is allowed
abbrev pub matches : List (List ℕ) → List ℕ → Bool
matches [] cells = true
matches (ds ∷ named) [] = true
matches (ds ∷ named) (c ∷ cells) = allows ds c && matches named cells

-- the decisions of the rules that match at cells, in order
abbrev pub deciding : List Rule → List ℕ → List ℕ
deciding rules cells = map (λ r. r.decision) (filter (λ r. matches r.named cells) rules)

-- ---- the four ways to combine decisions
-- the first of the decisions
abbrev pub first_of : List ℕ → ℕ
first_of [] = 0
first_of (d ∷ ds) = d

-- a start, and the decisions added to it one by one
abbrev pub sum_from : (ℕ → ℕ → ℕ) → ℕ → List ℕ → ℕ
sum_from sum a [] = a
sum_from sum a (d ∷ ds) = sum_from sum (sum a d) ds

-- grouped to the left
abbrev pub sum_of : (ℕ → ℕ → ℕ) → List ℕ → ℕ
sum_of sum [] = 0
sum_of sum (d ∷ ds) = sum_from sum d ds

-- the decision that stands alone
abbrev pub only_of : List ℕ → ℕ
only_of [] = 0
only_of (d ∷ []) = d
only_of (d ∷ e ∷ ds) = 0

-- by the number of the way: the first; the sum; the only one; the negation of the sum of the negations
abbrev pub combine : Tables → ℕ → List ℕ → ℕ
combine t way ds =
    cond (way == 1) (first_of ds)
    (cond (way == 2) (sum_of t.sum ds)
    (cond (way == 3) (only_of ds)
    (t.negation (sum_of t.sum (map t.negation ds)))))

-- what rules decide at cells
abbrev pub decides : Tables → ℕ → List Rule → List ℕ → ℕ
decides t way rules cells = combine t way (deciding rules cells)
