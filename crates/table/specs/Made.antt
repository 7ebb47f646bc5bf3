-- Finding or making one node record.
use Rattle.std.specs.Prelude.{◌≡◌, ℕ, ◌<◌, ◌⊎◌, List, length, Some, None, Option, slice_set}
use Rattle.marking.specs.Marks.{Marked}
use Rattle.diagram.specs.declared.Node.{Node}
use Rattle.diagram.specs.Diagram.{node}
use Rattle.diagram.specs.Sound.{Alike, Agree}
use Rattle.diagram.specs.Growing.{Grown}

-- no live record is like the node x
abbrev pub NoneIsAlike : List Node → List ℕ → Node → Type 0
NoneIsAlike nodes marks x = (s : ℕ) → Marked marks s → Alike (node nodes s) x → ⊥

-- the live record r is like x, and nothing is written
pub record Found (nodes : List Node) (marks : List ℕ) (nodes' : List Node) (marks' : List ℕ) (x : Node) (r : ℕ) : Type 0 where
  pub in_memory : r < length nodes
  pub was_live : Marked marks r
  pub is_alike : Alike (node nodes r) x
  pub nodes_stay : nodes' ≡ nodes
  pub marks_stay : marks' ≡ marks

-- no live record is like x, and x is written into record r, which was not live and now is
pub record Taken (nodes : List Node) (marks : List ℕ) (nodes' : List Node) (marks' : List ℕ) (x : Node) (r : ℕ) : Type 0 where
  pub in_memory : r < length nodes
  pub was_not_live : Marked marks r → ⊥
  pub none_was_alike : NoneIsAlike nodes marks x
  pub one_record_written : nodes' ≡ slice_set nodes r x
  pub one_byte_written : marks' ≡ slice_set marks r 1

-- every record is live, none is like x, and nothing is written
pub record Full (nodes : List Node) (marks : List ℕ) (nodes' : List Node) (marks' : List ℕ) (x : Node) : Type 0 where
  pub every_record_is_live : (r : ℕ) → r < length nodes → Marked marks r
  pub none_is_alike : NoneIsAlike nodes marks x
  pub nodes_stay : nodes' ≡ nodes
  pub marks_stay : marks' ≡ marks

-- what finding or making x answers and leaves, whatever node memory holds
abbrev pub Made : List Node → List ℕ → List Node → List ℕ → Node → Option ℕ → Type 0
Made nodes marks nodes' marks' x (Some r) = Found nodes marks nodes' marks' x r ⊎ Taken nodes marks nodes' marks' x r
Made nodes marks nodes' marks' x None = Full nodes marks nodes' marks' x

-- what was live is as it was, and live, whatever node memory holds
pub record LiveStays (nodes : List Node) (marks : List ℕ) (nodes' : List Node) (marks' : List ℕ) : Type 0 where
  pub memory_is_as_long : length nodes' ≡ length nodes
  pub marking_is_as_long : length marks' ≡ length marks
  pub live_records_stay : Agree (Marked marks) nodes nodes'
  pub live_stays_live : (r : ℕ) → Marked marks r → Marked marks' r

-- record r is live and like x, in memory that has grown by no other record
pub record Stored (k : ℕ) (shape : List ℕ) (nodes : List Node) (marks : List ℕ) (nodes' : List Node) (marks' : List ℕ) (x : Node) (r : ℕ) : Type 0 where
  pub memory_has_grown : Grown k shape nodes (Marked marks) nodes' (Marked marks')
  pub is_live : Marked marks' r
  pub is_alike : Alike (node nodes' r) x
  pub no_other_came : (s : ℕ) → Marked marks' s → Marked marks s ⊎ (s ≡ r)

-- a number that is answered is that of a record where x is stored
abbrev pub StoredWhereAnswered : ℕ → List ℕ → List Node → List ℕ → List Node → List ℕ → Node → Option ℕ → Type 0
StoredWhereAnswered k shape nodes marks nodes' marks' x (Some r) = Stored k shape nodes marks nodes' marks' x r
StoredWhereAnswered k shape nodes marks nodes' marks' x None = Unit {0}
