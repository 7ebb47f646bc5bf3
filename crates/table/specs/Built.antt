-- What building a page leaves: memory that has grown by parts of the page only, and a link of the page unless parts outnumber records.
use Rattle.std.specs.Prelude.{◌≡◌, ℕ, ◌<◌, true, List, length, drop, Some, None, Option}
use Rattle.pages.specs.Parts.{Part, same, has, parts}
use Rattle.pages.specs.Sizes.{count}
use Rattle.diagram.specs.declared.Node.{Node}
use Rattle.diagram.specs.declared.Link.{Link}
use Rattle.diagram.specs.Diagram.{page}
use Rattle.diagram.specs.Sound.{Fit, Meant}
use Rattle.diagram.specs.Growing.{Grown}

-- each part of ps is one of qs
abbrev pub Within : List Part → List Part → Type 0
Within ps qs = (q : Part) → has same q ps ≡ true → has same q qs ≡ true

-- the list ps has the parts of all live records and of the page p at level j
abbrev pub CoversBoth : List ℕ → List Node → (ℕ → Type 0) → ℕ → List ℕ → List Part → Type 0
CoversBoth shape nodes Live j p ps = Meant shape nodes Live ps × Within (parts j (drop j shape) p) ps

-- the link l may stand at level j, and denotes the page p there
abbrev pub Denotes : ℕ → List ℕ → List Node → (ℕ → Type 0) → ℕ → List ℕ → Link → Type 0
Denotes k shape nodes Live j p l = Fit k nodes Live j l × (page nodes j (drop j shape) l ≡ p)

-- the parts of the live records and of the page p, in whatever list they stand, outnumber the records
abbrev pub PartsOutnumberRecords : List ℕ → List Node → (ℕ → Type 0) → ℕ → List ℕ → Type 0
PartsOutnumberRecords shape nodes Live j p = (ps : List Part) → CoversBoth shape nodes Live j p ps → length nodes < count same ps

-- the answer is a link of the page, or none, and then the parts outnumbered the records
abbrev pub LinkOrLack : ℕ → List ℕ → List Node → (ℕ → Type 0) → List Node → (ℕ → Type 0) → ℕ → List ℕ → Option Link → Type 0
LinkOrLack k shape nodes Live nodes' Live' j p (Some l) = Denotes k shape nodes' Live' j p l
LinkOrLack k shape nodes Live nodes' Live' j p None = PartsOutnumberRecords shape nodes Live j p

-- the page p was built at level j: memory has grown, each record that came denotes a part of p, and the answer is a link of p or none for lack of records
pub record Built (k : ℕ) (shape : List ℕ) (nodes : List Node) (Live : ℕ → Type 0) (nodes' : List Node) (Live' : ℕ → Type 0) (j : ℕ) (p : List ℕ) (r : Option Link) : Type 0 where
  pub memory_has_grown : Grown k shape nodes Live nodes' Live'
  pub only_parts_of_the_page_came : (ps : List Part) → CoversBoth shape nodes Live j p ps → Meant shape nodes' Live' ps
  pub link_or_lack : LinkOrLack k shape nodes Live nodes' Live' j p r
