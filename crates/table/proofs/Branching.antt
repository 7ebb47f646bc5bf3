-- The branches of an attribute's cells, one after the other.
use Rattle.std.proofs.Common.{◌≡◌, ℕ, suc, ◌<◌, true, List, length, get_or, drop, set, Some, None, sym, refl, ap, ◌∙◌, subst, ⊎_elim, arith, length-set, drop-cons}
use Rattle.std.proofs.lemmas.List.{get_or-set_same, get_or-set_other}
use Rattle.std.proofs.lemmas.Bool.{cases_eq}
use Rattle.vocabulary.specs.Grid.{grid}
use Rattle.pages.specs.Pages.{runs}
use Rattle.pages.specs.Parts.{Part, same, has, parts}
use Rattle.pages.specs.Sizes.{count}
use Rattle.pages.proofs.Runs.{chunk-runs-below}
use Rattle.pages.proofs.Branches.{parts-chunk}
use Rattle.diagram.specs.declared.Node.{Node}
use Rattle.diagram.specs.declared.Link.{Link}
use Rattle.diagram.specs.declared.Link.TheVariants.{Decision}
use Rattle.diagram.specs.Diagram.{page}
use Rattle.diagram.specs.Sound.{Fit}
use Rattle.diagram.proofs.Denoting.{page_frame}
use Rattle.diagram.proofs.Changing.{fit_frame}
use Rattle.table.specs.Built.{Within, CoversBoth, Built}
use Rattle.table.specs.Reduced.{branch_at, BranchesBuilt}
use Rattle.table.proofs.Storing.{grown_twice}

module _ (shape : List ℕ) (j : ℕ) (low : j < length shape) (P : ℕ → List ℕ) (sized : (c : ℕ) → c < get_or shape j 0 → length (P c) ≡ grid (drop (suc j) shape)) where
  -- the parts of the page of cell c are parts of the whole page
  pub cell_within : (c : ℕ) → c < get_or shape j 0 → Within (parts (suc j) (drop (suc j) shape) (P c)) (parts j (drop j shape) (runs (get_or shape j 0) P))
  cell_within c l q h =
      subst (λ s. has same q (parts j s (runs (get_or shape j 0) P)) ≡ true) (sym (drop-cons shape j 0 low))
      (parts-chunk j (get_or shape j 0) (drop (suc j) shape) (runs (get_or shape j 0) P) q c l
      (subst (λ p. has same q (parts (suc j) (drop (suc j) shape) p) ≡ true) (sym (chunk-runs-below (get_or shape j 0) (grid (drop (suc j) shape)) P sized c l)) h))

  module _ (k : ℕ) (nodes : List Node) (Live : ℕ → Type 0) (nodes' : List Node) (Live' : ℕ → Type 0) (nodes'' : List Node) (Live'' : ℕ → Type 0) (c : ℕ) (small : c < get_or shape j 0) (narrow : c < 16) (ls : List Link) (built : BranchesBuilt k shape nodes Live nodes' Live' j P c ls) where
    -- what covers the live records and the whole page covers the records that are live now and the page of cell c
    covers_cell : (ps : List Part) → CoversBoth shape nodes Live j (runs (get_or shape j 0) P) ps → CoversBoth shape nodes' Live' (suc j) (P c) ps
    covers_cell ps w = (built.only_parts_of_the_page_came ps w, λ q h. w.1 q (cell_within c small q h))

    -- one more branch
    pub branch_more : (l : Link) → Built k shape nodes' Live' nodes'' Live'' (suc j) (P c) (Some l) → BranchesBuilt k shape nodes Live nodes'' Live'' j P (suc c) (set ls c l)
    branch_more l r =
        let g = r.memory_has_grown in
        let in' : c < length ls = subst (λ (m : ℕ). c < m) (sym built.sixteen_branches) narrow in
        let here : branch_at (set ls c l) c ≡ l = get_or-set_same ls c l (Decision 0) in' in
        record {
          memory_has_grown = grown_twice k shape nodes Live nodes' Live' nodes'' Live'' built.memory_has_grown g;
          only_parts_of_the_page_came = λ ps w. r.only_parts_of_the_page_came ps (covers_cell ps w);
          sixteen_branches = length-set ls c l ∙ built.sixteen_branches;
          branches_lead_on =
              λ i b.
              ⊎_elim (λ (e : i ≡ c). subst (Fit k nodes'' Live'' (suc j)) (sym (ap (branch_at (set ls c l)) e ∙ here)) r.link_or_lack.0)
              (λ e.
              subst (Fit k nodes'' Live'' (suc j)) (sym (get_or-set_other ls c i l (Decision 0) e))
              (fit_frame k shape nodes' nodes'' Live' Live'' g.live_records_stay g.live_stays_live (suc j) (branch_at ls i) (built.branches_lead_on i (omega arith))))
              (cases_eq i c);
          branches_denote =
              λ i b.
              ⊎_elim (λ (e : i ≡ c). ap (page nodes'' (suc j) (drop (suc j) shape)) (ap (branch_at (set ls c l)) e ∙ here) ∙ r.link_or_lack.1 ∙ ap P (sym e))
              (λ e.
              ap (page nodes'' (suc j) (drop (suc j) shape)) (get_or-set_other ls c i l (Decision 0) e)
              ∙ page_frame k shape nodes' Live' built.memory_has_grown.still_sound nodes'' g.live_records_stay (suc j) (drop (suc j) shape) refl (branch_at ls i) (built.branches_lead_on i (omega arith))
              ∙ built.branches_denote i (omega arith))
              (cases_eq i c);
          others_are_blank = λ i b. get_or-set_other ls c i l (Decision 0) (λ e. omega arith) ∙ built.others_are_blank i (omega arith);
        }

    -- a record is lacking for one more branch, and so for the whole page
    pub branch-none : Built k shape nodes' Live' nodes'' Live'' (suc j) (P c) None → Built k shape nodes Live nodes'' Live'' j (runs (get_or shape j 0) P) None
    branch-none r =
        record {
          memory_has_grown = grown_twice k shape nodes Live nodes' Live' nodes'' Live'' built.memory_has_grown r.memory_has_grown;
          only_parts_of_the_page_came = λ ps w. r.only_parts_of_the_page_came ps (covers_cell ps w);
          link_or_lack =
              λ ps w.
              let e = built.memory_has_grown.memory_is_as_long in
              let h : length nodes' < count same ps = r.link_or_lack ps (covers_cell ps w) in
              omega arith;
        }
