-- One link for the branches of all cells of an attribute.
use Rattle.std.proofs.Common.{◌≡◌, ℕ, suc, ◌<◌, ◌≤◌, true, List, length, get_or, drop, Some, None, Option, sym, refl, ap, ◌∙◌, subst, arith, take_all, drop-cons}
use Rattle.vocabulary.specs.Grid.{grid}
use Rattle.pages.specs.Pages.{runs, chunk}
use Rattle.pages.specs.Parts.{Part, same, has, parts}
use Rattle.pages.specs.Sizes.{count}
use Rattle.pages.proofs.Runs.{runs_same, chunk-runs-below}
use Rattle.pages.proofs.Branches.{parts_here}
use Rattle.marking.specs.Marks.{Marked}
use Rattle.diagram.specs.declared.Node.{Node}
use Rattle.diagram.specs.declared.Link.{Link}
use Rattle.diagram.specs.declared.Link.TheVariants.{Decision, Record}
use Rattle.diagram.specs.Diagram.{node, link, page, part, says}
use Rattle.diagram.specs.Sound.{Fit, Proper, Alike}
use Rattle.diagram.proofs.Denoting.{canonical}
use Rattle.diagram.proofs.Making.{page_skip, full, part-made, meant_more}
use Rattle.table.specs.Made.{Stored, Full}
use Rattle.table.specs.Built.{Built}
use Rattle.table.specs.Reduced.{branch_at, AllTheSame, OneDiffers, BranchesBuilt, Reducible}
use Rattle.table.proofs.Storing.{grown_twice}

-- a link that may stand one level on may stand here
pub lower : (k : ℕ) (nodes : List Node) (Live : ℕ → Type 0) (j : ℕ) (l : Link) → Fit k nodes Live (suc j) l → Fit k nodes Live j l
lower k nodes Live j (Decision d) f = f
lower k nodes Live j (Record r) f = (f.0, let h = f.1 in omega arith)

module _ (k : ℕ) (shape : List ℕ) (nodes : List Node) (Live : ℕ → Type 0) (nodes' : List Node) (Live' : ℕ → Type 0) (j : ℕ) (P : ℕ → List ℕ) (n : ℕ) (ls : List Link) (h : Reducible k shape nodes Live nodes' Live' j P n ls) where
  -- the branches, by the number of cells that the shape has
  built : BranchesBuilt k shape nodes Live nodes' Live' j P (get_or shape j 0) ls
  built = subst (λ (m : ℕ). BranchesBuilt k shape nodes Live nodes' Live' j P m ls) h.cells_of_the_attribute h.branches_are_built

  -- there is a first cell
  first : 0 < get_or shape j 0
  first = h.attributes_have_cells j h.at_an_attribute

  -- the page over n cells, which are those of the attribute
  over_cells : (nodes'' : List Node) (Live'' : ℕ → Type 0) (r : Option Link) → Built k shape nodes Live nodes'' Live'' j (runs (get_or shape j 0) P) r → Built k shape nodes Live nodes'' Live'' j (runs n P) r
  over_cells nodes'' Live'' r = subst (λ (m : ℕ). Built k shape nodes Live nodes'' Live'' j (runs m P) r) (sym h.cells_of_the_attribute)

  -- all branches are the same link, which denotes the whole page
  pub one_link : AllTheSame n ls → Built k shape nodes Live nodes' Live' j (runs n P) (Some (branch_at ls 0))
  one_link e =
      let l : Link = branch_at ls 0 in
      let q = h.cells_of_the_attribute in
      let f : Fit k nodes' Live' (suc j) l = built.branches_lead_on 0 first in
      over_cells nodes' Live' (Some l)
      (record {
        memory_has_grown = built.memory_has_grown;
        only_parts_of_the_page_came = built.only_parts_of_the_page_came;
        link_or_lack = (
          lower k nodes' Live' j l f,
          ap (λ s. page nodes' j s l) (drop-cons shape j 0 h.at_an_attribute)
              ∙ page_skip k nodes' Live' j (get_or shape j 0) (drop (suc j) shape) l f
              ∙ runs_same (get_or shape j 0) (λ c. page nodes' (suc j) (drop (suc j) shape) l) P
              (λ c i. ap (page nodes' (suc j) (drop (suc j) shape)) (sym (e c (omega arith))) ∙ built.branches_denote c i),
        );
      })

  module _ (room : n ≤ 16) (differs : OneDiffers n ls) where
    -- the record with these branches
    abbrev pub made : Node
    made = record { level = j; branches = ls }

    room' : get_or shape j 0 ≤ 16
    room' = let q = h.cells_of_the_attribute in omega arith

    link_is : (c : ℕ) → link made c ≡ branch_at ls c
    link_is c = let w : length ls ≤ 16 = omega (arith, built.sixteen_branches) in ap (λ s. get_or s c (Decision 0)) (take_all 16 ls w)

    abbrev other : ℕ
    other = differs.0

    other_is_a_cell : other < get_or shape j 0
    other_is_a_cell = let q = h.cells_of_the_attribute in let l = differs.1 in omega arith

    -- it may be live
    pub made_is_proper : Proper k shape nodes' Live' made
    made_is_proper =
        record {
          at_an_attribute = h.at_an_attribute;
          branches_lead_on = λ c b. subst (Fit k nodes' Live' (suc j)) (sym (link_is c)) (built.branches_lead_on c b);
          two_branches_differ = (other, other_is_a_cell, λ e. differs.2 (sym (link_is other) ∙ e ∙ link_is 0));
          others_are_blank = λ c b. link_is c ∙ built.others_are_blank c b;
        }

    says-made : says nodes' shape made ≡ runs (get_or shape j 0) P
    says-made =
        runs_same (get_or shape j 0) (λ c. page nodes' (suc j) (drop (suc j) shape) (link made c)) P (λ c i. ap (page nodes' (suc j) (drop (suc j) shape)) (link_is c) ∙ built.branches_denote c i)

    -- what it says is a branching part of the whole page
    is_a_part : has same (j, says nodes' shape made) (parts j (drop j shape) (runs (get_or shape j 0) P)) ≡ true
    is_a_part =
        let n : ℕ = get_or shape j 0 in
        let ns : List ℕ = drop (suc j) shape in
        let cut : (c : ℕ) → c < n → chunk (grid ns) (runs n P) c ≡ P c = chunk-runs-below n (grid ns) P h.pages_fill_the_grid in
        let e : ◌≡◌ {A = Part} (j, says nodes' shape made) (j, runs n P) = ap {B = Part} (λ p. (j, p)) says-made in
        subst (λ q. has same q (parts j (drop j shape) (runs n P)) ≡ true) (sym e)
        (subst (λ s. has same (j, runs n P) (parts j s (runs n P)) ≡ true) (sym (drop-cons shape j 0 h.at_an_attribute))
        (parts_here j n ns (runs n P) other other_is_a_cell
        (λ q.
        differs.2
        (canonical k shape nodes' Live' built.memory_has_grown.still_sound h.attributes_have_cells (suc j) ns refl (branch_at ls other) (branch_at ls 0) (built.branches_lead_on other other_is_a_cell)
        (built.branches_lead_on 0 first)
        (built.branches_denote other other_is_a_cell ∙ sym (cut other other_is_a_cell) ∙ q ∙ cut 0 first ∙ sym (built.branches_denote 0 first))))))

    -- every record is live and none has these branches: the parts outnumber the records
    pub record_lacks : ((r : ℕ) → r < length nodes' → Live' r) → ((r : ℕ) → Live' r → Alike (node nodes' r) made → ⊥) → Built k shape nodes Live nodes' Live' j (runs n P) None
    record_lacks taken new =
        over_cells nodes' Live' None
        (record {
          memory_has_grown = built.memory_has_grown;
          only_parts_of_the_page_came = built.only_parts_of_the_page_came;
          link_or_lack =
              λ ps w.
              let e = built.memory_has_grown.memory_is_as_long in
              let b : length nodes' < count same ps =
              full k shape nodes' Live' built.memory_has_grown.still_sound h.attributes_have_cells ps made made_is_proper taken new (built.only_parts_of_the_page_came ps w)
              (w.1 (j, says nodes' shape made) is_a_part)
              in
              omega arith;
        })

-- the record with these branches is stored: a link to it denotes the whole page
module _ (k : ℕ) (shape : List ℕ) (nodes : List Node) (Live : ℕ → Type 0) (nodes' : List Node) (marks' : List ℕ) (j : ℕ) (P : ℕ → List ℕ) (n : ℕ) (ls : List Link) (h : Reducible k shape nodes Live nodes' (Marked marks') j P n ls) (room : n ≤ 16) (differs : OneDiffers n ls) where
  abbrev x : Node
  x = record { level = j; branches = ls }

  pub record_stored : (nodes'' : List Node) (marks'' : List ℕ) (r : ℕ) → Stored k shape nodes' marks' nodes'' marks'' x r
      → Built k shape nodes Live nodes'' (Marked marks'') j (runs n P) (Some (Record r))
  record_stored nodes'' marks'' r s =
      let b = built k shape nodes Live nodes' (Marked marks') j P n ls h in
      let g = s.memory_has_grown in
      let o = made_is_proper k shape nodes Live nodes' (Marked marks') j P n ls h room differs in
      let q : (node nodes'' r).level ≡ j = s.is_alike.0 in
      let room' = room' k shape nodes Live nodes' (Marked marks') j P n ls h room differs in
      let t : part nodes'' shape r ≡ (j, says nodes' shape x) =
      part-made k shape nodes' nodes'' (Marked marks') (Marked marks'') b.memory_has_grown.still_sound g.live_records_stay x r o room' s.is_alike
      in
      over_cells k shape nodes Live nodes' (Marked marks') j P n ls h nodes'' (Marked marks'') (Some (Record r))
      (record {
        memory_has_grown = grown_twice k shape nodes Live nodes' (Marked marks') nodes'' (Marked marks'') b.memory_has_grown g;
        only_parts_of_the_page_came =
            λ ps w.
            meant_more k shape nodes' nodes'' (Marked marks') (Marked marks'') b.memory_has_grown.still_sound g.live_records_stay ps x r o room' s.is_alike (b.only_parts_of_the_page_came ps w)
            (w.1 (j, says nodes' shape x) (is_a_part k shape nodes Live nodes' (Marked marks') j P n ls h room differs)) s.no_other_came;
        link_or_lack = (
          (s.is_live, omega arith),
          ap (λ (m : ℕ). page nodes'' m (drop m shape) (Record r)) (sym q) ∙ ap (λ (z : Part). z.1) t ∙ says-made k shape nodes Live nodes' (Marked marks') j P n ls h room differs,
        );
      })

  -- memory is full, and stays: a record is lacking for the whole page
  pub record_missing : (nodes'' : List Node) (marks'' : List ℕ) → Full nodes' marks' nodes'' marks'' x → Built k shape nodes Live nodes'' (Marked marks'') j (runs n P) None
  record_missing nodes'' marks'' f =
      subst (λ ns. Built k shape nodes Live ns (Marked marks'') j (runs n P) None) (sym f.nodes_stay)
      (subst (λ ms. Built k shape nodes Live nodes' (Marked ms) j (runs n P) None) (sym f.marks_stay)
      (record_lacks k shape nodes Live nodes' (Marked marks') j P n ls h room differs f.every_record_is_live f.none_is_alike))
