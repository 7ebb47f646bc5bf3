-- What is decided: a vocabulary, then policy sheets and requests in any order, each in a field of its own.
use Rattle.std.specs.Prelude.{ℕ, cond, List, [], ◌∷◌, ◌++◌, map, Ok, ◌==◌}
use Rattle.refusal.specs.Answers.{Answer, and_then}
use Rattle.algebra.specs.PermitDeny.{permit_deny}
use Rattle.fields.specs.Fields.{Framed}
use Rattle.vocabulary.specs.Vocabulary.{Attribute}
use Rattle.policy.specs.Walks.{checked_by}
use Rattle.location.specs.Located.{placed}
use Rattle.location.specs.Served.{served}
use Rattle.decision.specs.Differing.{Difference, decision_at, differences_from}

-- a line of decisions for each request, and the differences of each two sheets
pub record Report : Type 0 where
  pub lines : List (List ℕ)
  pub differences : List Difference

-- the sheets that have arrived, and the lines of the requests so far
pub record Arrived : Type 0 where
  pub sheets : List (List ℕ)
  pub lines : List (List ℕ)

-- neither sheet nor request has arrived
abbrev pub nothing_yet : Arrived
nothing_yet = record { sheets = []; lines = [] }

-- what each sheet decides at a grid number, in order
abbrev pub decisions_at : List Attribute → List (List ℕ) → ℕ → List ℕ
decisions_at v sheets g = map (λ s. decision_at v s g) sheets

-- one sheet more
abbrev pub with_sheet : Arrived → List ℕ → Arrived
with_sheet a s = record { sheets = a.sheets ++ s ∷ []; lines = a.lines }

-- one line more: what the sheets so far decide at a grid number
abbrev pub with_line : List Attribute → Arrived → ℕ → Arrived
with_line v a g = record { sheets = a.sheets; lines = a.lines ++ decisions_at v a.sheets g ∷ [] }

-- a field 0x02 brings a sheet, which must describe a policy; a field 0x04 a request
abbrev pub serve : ℕ → List Attribute → Arrived → Framed → Answer Arrived
serve at v a f =
    cond (f.tag == 0x02) (and_then (checked_by permit_deny.size v f.content) (λ _. Ok (with_sheet a f.content)))
    (and_then (placed at v f) (λ p. Ok (with_line v a p.grid_number)))

-- the lines, and the differences of the sheets, which are numbered from 0
abbrev pub reported : List Attribute → Arrived → Report
reported v a = record { lines = a.lines; differences = differences_from v 0 a.sheets }

-- what is decided on an input
abbrev pub decided : List ℕ → Answer Report
decided bs = served nothing_yet serve reported bs
