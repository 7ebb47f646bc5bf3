-- Reading the branches of a record, and the walk of cells one by one.
use Rattle.std.proofs.Common.{◌≡◌, ℕ, ◌+◌, ◌<◌, ◌≤◌, List, length, get_or, take, drop, sym, ap, ◌∙◌, arith}
use Rattle.std.proofs.Math.Seq.{take-length}
use Rattle.std.proofs.lemmas.List.{drop_more, drop_all}
use Rattle.diagram.specs.declared.Node.{Node}
use Rattle.diagram.specs.declared.Link.{Link}
use Rattle.diagram.specs.declared.Link.TheVariants.{Decision}
use Rattle.diagram.specs.Diagram.{link, next, follow}

-- a record has sixteen branches, and its links are those
pub link_read : (x : Node) (c : ℕ) → length x.branches ≡ 16 → link x c ≡ get_or x.branches c (Decision 0)
link_read x c e = ap (λ (n : ℕ). get_or (take n x.branches) c (Decision 0)) (sym e) ∙ ap (λ ls. get_or ls c (Decision 0)) (take-length x.branches)

-- the path from cell i on goes on with the next cell, from where that cell leads
pub follow_more : (nodes : List Node) (cells : List ℕ) (i : ℕ) (l : Link) → i < length cells
    → follow nodes i (drop i cells) l ≡ follow nodes (i + 1) (drop (i + 1) cells) (next nodes i l (get_or cells i 0))
follow_more nodes cells i l h =
    ap (λ cs. follow nodes i cs l) (drop_more cells i 0 h) ∙ ap (λ (j : ℕ). follow nodes j (drop (i + 1) cells) (next nodes i l (get_or cells i 0))) (omega arith)

-- with no cell left it has come to its end
pub follow_all : (nodes : List Node) (cells : List ℕ) (i : ℕ) (l : Link) → length cells ≤ i → follow nodes i (drop i cells) l ≡ l
follow_all nodes cells i l h = ap (λ cs. follow nodes i cs l) (drop_all i cells h)
