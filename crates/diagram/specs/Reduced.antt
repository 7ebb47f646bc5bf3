-- What makes a sound set of records reduced and shared: one link for a page, one record for a part.
use Rattle.std.specs.Prelude.{◌≡◌, ℕ, ◌<◌, ◌≤◌, true, ◌≢◌, List, map, length, drop, nat_eq}
use mathlib.Core.List.{Memᴰ}
use Rattle.std.specs.List.{flat_map, AllByRecursion}
use Rattle.vocabulary.specs.Grid.{Cells}
use Rattle.pages.specs.Parts.{Part, same, Branching, has}
use Rattle.pages.specs.Sizes.{count, parts_of, size}
use Rattle.diagram.specs.declared.Node.{Node}
use Rattle.diagram.specs.declared.Link.{Link}
use Rattle.diagram.specs.Diagram.{walk, page, met, part}
use Rattle.diagram.specs.Sound.{Fit, Met, OfEverySoundSet}

-- links that denote the same page are the same link
abbrev pub LinksOfOnePageAreOneLink : Type 0
LinksOfOnePageAreOneLink =
    OfEverySoundSet λ k shape nodes Live.
    (j : ℕ) (a b : Link) → Fit k nodes Live j a → Fit k nodes Live j b → page nodes j (drop j shape) a ≡ page nodes j (drop j shape) b → a ≡ b

-- roots from which the walks of all cells lead to the same decisions are one link
abbrev pub RootsThatDecideAlikeAreOneLink : Type 0
RootsThatDecideAlikeAreOneLink =
    OfEverySoundSet λ k shape nodes Live.
    (a b : Link) → Fit k nodes Live 0 a → Fit k nodes Live 0 b → ((cells : List ℕ) → Cells shape cells → walk nodes 0 cells a ≡ walk nodes 0 cells b) → a ≡ b

-- a root decides by codes: each walk, and so each decision of its page, is below k
pub record DecidesByCodes (k : ℕ) (shape : List ℕ) (nodes : List Node) (l : Link) : Type 0 where
  pub walks_end_in_codes : (cells : List ℕ) → Cells shape cells → walk nodes 0 cells l < k
  pub page_has_codes : AllByRecursion (λ d. d < k) (page nodes 0 shape l)

-- every root on a sound set decides by codes
abbrev pub RootsDecideByCodes : Type 0
RootsDecideByCodes = OfEverySoundSet λ k shape nodes Live. (l : Link) → Fit k nodes Live 0 l → DecidesByCodes k shape nodes l

-- the records met from roots hold the branching parts of their pages, in the order in which the pages have them
pub record HeldByRecords (shape : List ℕ) (nodes : List Node) (Live : ℕ → Type 0) (roots : List Link) : Type 0 where
  pub in_order : parts_of shape (map (page nodes 0 shape) roots) ≡ map (part nodes shape) (flat_map (met nodes 0 shape) roots)
  pub each_record_met_is_live : (r : ℕ) → Met nodes shape roots r → Live r
  pub each_record_met_holds_a_part : (r : ℕ) → Met nodes shape roots r → (p : List ℕ) × Memᴰ p (map (page nodes 0 shape) roots) × Branching shape p (part nodes shape r)
  pub each_part_is_held : (p : List ℕ) → Memᴰ p (map (page nodes 0 shape) roots) → (q : Part) → Branching shape p q → (r : ℕ) × Met nodes shape roots r × (part nodes shape r ≡ q)

-- records met hold just the branching parts
abbrev pub RecordsHoldTheBranchingParts : Type 0
RecordsHoldTheBranchingParts = OfEverySoundSet λ k shape nodes Live. (roots : List Link) → AllByRecursion (Fit k nodes Live 0) roots → HeldByRecords shape nodes Live roots

-- distinct live records hold distinct parts
abbrev pub NoTwoRecordsHoldOnePart : Type 0
NoTwoRecordsHoldOnePart = OfEverySoundSet λ k shape nodes Live. (r s : ℕ) → Live r → Live s → part nodes shape r ≡ part nodes shape s → r ≡ s

-- the size of roots' pages together is the number of records met from them, and no more than there are records
pub record SizedByRecords (shape : List ℕ) (nodes : List Node) (roots : List Link) : Type 0 where
  pub as_many_as_records_met : size shape (map (page nodes 0 shape) roots) ≡ count nat_eq (flat_map (met nodes 0 shape) roots)
  pub not_more_than_records : size shape (map (page nodes 0 shape) roots) ≤ length nodes

-- sizes count records
abbrev pub SizesCountRecords : Type 0
SizesCountRecords =
    OfEverySoundSet λ k shape nodes Live. (roots : List Link) → AllByRecursion (Fit k nodes Live 0) roots → SizedByRecords shape nodes roots

-- where all records are live and hold parts of ps, and ps has one part more, its distinct parts outnumber the records
abbrev pub FullMemoryLacksCapacity : Type 0
FullMemoryLacksCapacity =
    OfEverySoundSet λ k shape nodes Live.
    (ps : List Part) (q : Part) → ((r : ℕ) → r < length nodes → Live r × (has same (part nodes shape r) ps ≡ true) × (part nodes shape r ≢ q)) → has same q ps ≡ true
    → length nodes < count same ps
