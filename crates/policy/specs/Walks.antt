-- The code's walk, in the words of the sheets.
use Rattle.std.specs.Prelude.{ℕ, Bool, false, not, ◌||◌, List, Some, None, Ok, Option, slice_index_or, slice_set}
use Rattle.short_list.specs.Items.{items_of}
use Rattle.refusal.specs.Answers.{Answer, given, and_then}
use Rattle.fields.specs.Ways.{way_number}
use Rattle.algebra.specs.Tables.{Tables}
use Rattle.vocabulary.specs.Vocabulary.{Attribute}
use Rattle.policy.specs.Rules.{is_among, decides}
use Rattle.policy.specs.Sheets.{policy_of}
use Rattle.policy.specs.Walking as walked
use Rattle.policy.specs.Walking.{Walked, begun, headed, judging, was_met}
use Rattle.policy.specs.Tallies.{tally_of}
use Rattle.policy.specs.declared.walk.Seen.{Seen}
use Rattle.policy.specs.declared.walk.Judging.{Judging}
use Rattle.policy.specs.declared.walk.State.{State}
use Rattle.policy.specs.declared.walk.State.TheVariants.{Begun, Headed, Ruled}

-- what is known of each attribute's cell
abbrev pub seen_in : Seen → walked.Seen
seen_in s = items_of s.met

-- the rule that is being read
abbrev pub judging_in : Judging → Walked
judging_in j = judging (way_number j.way) (tally_of j.tally) j.decision (seen_in j.seen)

-- how far the walk has come
abbrev pub state_in : State → Walked
state_in Begun = begun
state_in (Headed w) = headed (way_number w)
state_in (Ruled j) = judging_in j

-- a cell is among those that a condition names, if it names any
abbrev pub among : ℕ → Option (List ℕ) → Option Bool
among c None = None
among c (Some cs) = Some (is_among c cs)

-- the cell of attribute i was met before or is met now
abbrev pub meets : walked.Seen → ℕ → Bool → walked.Seen
meets seen i b = slice_set seen i (Some (was_met (slice_index_or seen i None) || b))

-- the attribute is named, and its cell is not
abbrev pub missed : Option Bool → Bool
missed None = false
missed (Some b) = not b

-- the rule with one more condition, on attribute i
abbrev pub noting : ℕ → Judging → ℕ → Option Bool → Answer Walked
noting at j i o = given o 24 at (λ b. Ok (judging (way_number j.way) (tally_of j.tally) j.decision (meets (seen_in j.seen) i b)))

-- what the rules of a policy sheet decide at cells, or the refusal of the sheet
abbrev pub decided_by : Tables → List Attribute → List ℕ → List ℕ → Answer ℕ
decided_by t v cells bs = and_then (policy_of v t.size bs) (λ x. Ok (decides t x.0 x.1 cells))

-- nothing is told
abbrev pub nothing : Unit {0} → Unit {0}
nothing u = u

-- a policy sheet, or its refusal
abbrev pub checked_by : ℕ → List Attribute → List ℕ → Answer (Unit {0})
checked_by k v bs = and_then (policy_of v k bs) (λ x. Ok tt)
