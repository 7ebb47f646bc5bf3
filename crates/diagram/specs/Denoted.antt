-- What links denote, in any node memory: the walks of cells, and operators.
use Rattle.std.specs.Prelude.{◌≡◌, ℕ, suc, List, ◌∷◌, map, length, replicate, slice_index}
use Rattle.vocabulary.specs.Grid.{grid, number, Cells}
use Rattle.pages.specs.Pages.{runs, paged}
use Rattle.pages.specs.Operators.{combined}
use Rattle.diagram.specs.declared.Node.{Node}
use Rattle.diagram.specs.declared.Link.{Link}
use Rattle.diagram.specs.declared.Link.TheVariants.{Decision}
use Rattle.diagram.specs.Diagram.{next, page, walk}

-- the page of a link has, for all cells, the decision that their walk leads to
pub record PageOfWalks (nodes : List Node) (j : ℕ) (ns : List ℕ) (l : Link) : Type 0 where
  pub as_long_as_the_grid : length (page nodes j ns l) ≡ grid ns
  pub decides_by_the_walk : (cells : List ℕ) → Cells ns cells → slice_index (page nodes j ns l) (number ns cells) ≡ walk nodes j cells l
  pub made_of_the_walks : page nodes j ns l ≡ paged ns (λ cells. walk nodes j cells l)

-- every link, at any level of any memory, denotes the page of its walks
abbrev pub LinksDenoteTheirWalks : Type 0
LinksDenoteTheirWalks = (nodes : List Node) (j : ℕ) (ns : List ℕ) (l : Link) → PageOfWalks nodes j ns l

-- operators on pages of links: cell by cell where an attribute is left, and at once on decisions
pub record OnLinks (nodes : List Node) (j : ℕ) : Type 0 where
  pub two_links_cell_by_cell :
      (f : ℕ → ℕ → ℕ) (n : ℕ) (ns : List ℕ) (a b : Link)
      → combined f (page nodes j (n ∷ ns) a) (page nodes j (n ∷ ns) b) ≡ runs n (λ c. combined f (page nodes (suc j) ns (next nodes j a c)) (page nodes (suc j) ns (next nodes j b c)))
  pub two_decisions_at_once : (f : ℕ → ℕ → ℕ) (ns : List ℕ) (d e : ℕ) → combined f (page nodes j ns (Decision d)) (page nodes j ns (Decision e)) ≡ page nodes j ns (Decision (f d e))
  pub one_link_cell_by_cell : (f : ℕ → ℕ) (n : ℕ) (ns : List ℕ) (l : Link) → map f (page nodes j (n ∷ ns) l) ≡ runs n (λ c. map f (page nodes (suc j) ns (next nodes j l c)))
  pub one_decision_at_once : (f : ℕ → ℕ) (ns : List ℕ) (d : ℕ) → map f (page nodes j ns (Decision d)) ≡ page nodes j ns (Decision (f d))
  pub a_decision_everywhere : (ns : List ℕ) (d : ℕ) → page nodes j ns (Decision d) ≡ replicate (grid ns) d

-- so it is at any level of any memory
abbrev pub OperatorsActCellByCell : Type 0
OperatorsActCellByCell = (nodes : List Node) (j : ℕ) → OnLinks nodes j
