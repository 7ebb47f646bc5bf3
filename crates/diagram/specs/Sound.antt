-- When a set of live records is sound: it is then a reduced, shared diagram.
use Rattle.std.specs.Prelude.{◌≡◌, ℕ, suc, ◌<◌, ◌≤◌, Bool, true, ◌≢◌, List, length, nat_eq, slice_index}
use Rattle.std.specs.List.{flat_map}
use Rattle.vocabulary.specs.Grid.{Filled}
use Rattle.pages.specs.Parts.{Part, same, has}
use Rattle.diagram.specs.declared.Node.{Node}
use Rattle.diagram.specs.declared.Link.{Link}
use Rattle.diagram.specs.declared.Link.TheVariants.{Decision, Record}
use Rattle.diagram.specs.Diagram.{node, link, met, part}

-- a link that may stand at level j: a code below k, or a live record of this level or a later one
abbrev pub Fit : ℕ → List Node → (ℕ → Type 0) → ℕ → Link → Type 0
Fit k nodes Live j (Decision d) = d < k
Fit k nodes Live j (Record r) = Live r × (j ≤ (node nodes r).level)

-- a record that may be live: its branches, one a cell, may stand one level on, two of them differ, and the others are blank
pub record Proper (k : ℕ) (shape : List ℕ) (nodes : List Node) (Live : ℕ → Type 0) (x : Node) : Type 0 where
  pub at_an_attribute : x.level < length shape
  pub branches_lead_on : (c : ℕ) → c < slice_index shape x.level → Fit k nodes Live (suc x.level) (link x c)
  pub two_branches_differ : (c : ℕ) × (c < slice_index shape x.level) × (link x c ≢ link x 0)
  pub others_are_blank : (c : ℕ) → slice_index shape x.level ≤ c → link x c ≡ Decision 0

-- two records with the same level and the same branches
abbrev pub Alike : Node → Node → Type 0
Alike x y = (x.level ≡ y.level) × ((c : ℕ) → c < 16 → link x c ≡ link y c)

-- the live records are in memory and proper, so that they lead to live records, and no two are alike
pub record Sound (k : ℕ) (shape : List ℕ) (nodes : List Node) (Live : ℕ → Type 0) : Type 0 where
  pub in_memory : (r : ℕ) → Live r → r < length nodes
  pub each_is_proper : (r : ℕ) → Live r → Proper k shape nodes Live (node nodes r)
  pub none_is_there_twice : (r s : ℕ) → Live r → Live s → Alike (node nodes r) (node nodes s) → r ≡ s

-- a fact about every sound set of records over a shape whose attributes have cells; the set is given by a test
abbrev pub OfEverySoundSet : (ℕ → List ℕ → List Node → (ℕ → Type 0) → Type 0) → Type 0
OfEverySoundSet P =
    (k : ℕ) (shape : List ℕ) (nodes : List Node) (live : ℕ → Bool) → Sound k shape nodes (λ r. live r ≡ true) → Filled shape → P k shape nodes (λ r. live r ≡ true)

-- two node memories that have the same in the live records
abbrev pub Agree : (ℕ → Type 0) → List Node → List Node → Type 0
Agree Live nodes nodes' = (r : ℕ) → Live r → node nodes' r ≡ node nodes r

-- record r is met from one of the roots
abbrev pub Met : List Node → List ℕ → List Link → ℕ → Type 0
Met nodes shape roots r = has nat_eq r (flat_map (met nodes 0 shape) roots) ≡ true

-- each live record denotes one of the parts ps
abbrev pub Meant : List ℕ → List Node → (ℕ → Type 0) → List Part → Type 0
Meant shape nodes Live ps = (r : ℕ) → Live r → has same (part nodes shape r) ps ≡ true
