-- Links as places whose pages are negated.
use Rattle.std.specs.Prelude.{◌≡◌, ℕ, List, map, drop}
use Rattle.algebra.specs.Tables.{Tables}
use Rattle.marking.specs.Marks.{Marked}
use Rattle.diagram.specs.declared.Node.{Node}
use Rattle.diagram.specs.declared.Link.{Link}
use Rattle.diagram.specs.Diagram.{page}
use Rattle.diagram.specs.Sound.{Fit}
use Rattle.places.specs.Places.{Standing, Paging}

-- the codes are those of the algebra, and the link may stand at level j
pub record OneFits (t : Tables) (k : ℕ) (nodes : List Node) (marks : List ℕ) (j : ℕ) (l : Link) : Type 0 where
  pub codes_of_the_algebra : k ≡ t.size
  pub link_fits : Fit k nodes (Marked marks) j l

-- a link stands where it fits
abbrev pub negation_stands : Tables → Standing Link
negation_stands t k shape nodes marks j l = OneFits t k nodes marks j l

-- it says at each grid number the negation of what it decides there
abbrev pub negation_says : Tables → Paging Link
negation_says t shape nodes j l = map t.negation (page nodes j (drop j shape) l)
