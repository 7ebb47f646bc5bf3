-- What node records and links say, in whatever node memory holds.
use Rattle.std.specs.Prelude.{ℕ, suc, cond, List, [], ◌∷◌, ◌++◌, take, drop, ◌==◌, slice_index, slice_index_or}
use Rattle.pages.specs.Pages.{runs}
use Rattle.pages.specs.Parts.{Part, only_if}
use Rattle.diagram.specs.declared.Node.{Node}
use Rattle.diagram.specs.declared.Link.{Link}
use Rattle.diagram.specs.declared.Link.TheVariants.{Decision, Record}

-- a blank record is at level 0, and not applicable in every cell
abbrev pub blank : Node
blank = record { level = 0; branches = [] }

-- the record of a number; past the memory there are blank ones only
abbrev pub node : List Node → ℕ → Node
node nodes r = slice_index_or nodes r blank

-- the link of a record at a cell; past the sixteen branches it is not applicable
abbrev pub link : Node → ℕ → Link
link x c = slice_index_or (take 16 x.branches) c (Decision 0)

-- the link of record r at a cell
abbrev pub branch : List Node → ℕ → ℕ → Link
branch nodes r c = link (node nodes r) c

-- where a link at level j leads in cell c of that attribute: a record of this level branches, a decision or a record of another level is passed on
abbrev pub next : List Node → ℕ → Link → ℕ → Link
next nodes j (Decision d) c = Decision d
next nodes j (Record r) c = cond ((node nodes r).level == j) (branch nodes r c) (Record r)

-- the decision of a link past the last attribute; a record there is not applicable
abbrev pub decision : Link → ℕ
decision (Decision d) = d
decision (Record r) = 0

-- the link that the path of cells leads to from a link at level j
abbrev pub follow : List Node → ℕ → List ℕ → Link → Link
follow nodes j [] l = l
follow nodes j (c ∷ cs) l = follow nodes (suc j) cs (next nodes j l c)

-- the decision that the path of cells leads to
abbrev pub walk : List Node → ℕ → List ℕ → Link → ℕ
walk nodes j cells l = decision (follow nodes j cells l)

-- the page that a link at level j denotes, over the shape that is left there
abbrev pub page : List Node → ℕ → List ℕ → Link → List ℕ
page nodes j [] l = decision l ∷ []
page nodes j (n ∷ ns) l = runs n (λ c. page nodes (suc j) ns (next nodes j l c))

-- the record that a link leads to, if it stands at level j
abbrev pub record_at : List Node → ℕ → Link → List ℕ
record_at nodes j (Decision d) = []
record_at nodes j (Record r) = only_if ((node nodes r).level == j) r

-- the records that the paths from a link at level j meet, as they are met
abbrev pub met : List Node → ℕ → List ℕ → Link → List ℕ
met nodes j [] l = []
met nodes j (n ∷ ns) l = record_at nodes j l ++ runs n (λ c. met nodes (suc j) ns (next nodes j l c))

-- the part that a record denotes: its level, and its page from there
abbrev pub part : List Node → List ℕ → ℕ → Part
part nodes shape r = ((node nodes r).level, page nodes (node nodes r).level (drop (node nodes r).level shape) (Record r))

-- what the branches of a record say at its level, wherever it is stored
abbrev pub says : List Node → List ℕ → Node → List ℕ
says nodes shape x = runs (slice_index shape x.level) (λ c. page nodes (suc x.level) (drop (suc x.level) shape) (link x c))
