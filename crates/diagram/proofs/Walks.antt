-- Pages of links as pages of walks, and operators on them.
use Rattle.std.proofs.Common.{◌≡◌, ℕ, zero, suc, ◌+◌, ◌*◌, ◌<◌, ◌≤◌, List, [], ◌∷◌, ◌++◌, map, length, get_or, drop, replicate, sym, refl, ap, ◌∙◌, suc-mul, zero-mul, arith}
use lib.ListN.{replicate-append-replicate}
use Rattle.std.specs.List.{AllByRecursion}
use Rattle.vocabulary.specs.Grid.{grid, number, Cells}
use Rattle.pages.specs.Pages.{runs, paged}
use Rattle.pages.specs.Operators.{combined}
use Rattle.pages.proofs.Runs.{runs_same, map_runs, all_runs, drop-step, drop_end}
use Rattle.pages.proofs.Operating.{get_d_paged, paged-same, combined-runs}
use Rattle.diagram.specs.declared.Node.{Node}
use Rattle.diagram.specs.declared.Link.{Link}
use Rattle.diagram.specs.declared.Link.TheVariants.{Decision, Record}
use Rattle.diagram.specs.Diagram.{next, decision, walk, page}
use Rattle.diagram.specs.Denoted.{LinksDenoteTheirWalks, OperatorsActCellByCell}
use Rattle.vocabulary.specs.Grid.{Filled}
use Rattle.diagram.specs.Sound.{Fit, Sound}
use Rattle.diagram.proofs.Denoting.{length-page, next_fit, canonical}

-- the page of a link is the page of its walks
pub page_walks : (nodes : List Node) (j : ℕ) (ns : List ℕ) (l : Link) → page nodes j ns l ≡ paged ns (λ cells. walk nodes j cells l)
page_walks nodes j [] l = refl
page_walks nodes j (n ∷ ns) l =
    runs_same n (λ c. page nodes (suc j) ns (next nodes j l c)) (λ c. paged ns (λ cs. walk nodes (suc j) cs (next nodes j l c))) (λ c i. page_walks nodes (suc j) ns (next nodes j l c))

-- so it has at the number of cells the decision of their walk
pub page-at : (nodes : List Node) (j : ℕ) (ns : List ℕ) (l : Link) (cells : List ℕ) → Cells ns cells → get_or (page nodes j ns l) (number ns cells) 0 ≡ walk nodes j cells l
page-at nodes j ns l cells h = ap (λ p. get_or p (number ns cells) 0) (page_walks nodes j ns l) ∙ get_d_paged ns (λ cells. walk nodes j cells l) cells h

-- ---- operators
module _ (f : ℕ → ℕ → ℕ) where
  -- one step of an operator on two links: cell by cell
  pub combined-step : (nodes : List Node) (j n : ℕ) (ns : List ℕ) (a b : Link)
      → combined f (page nodes j (n ∷ ns) a) (page nodes j (n ∷ ns) b) ≡ runs n (λ c. combined f (page nodes (suc j) ns (next nodes j a c)) (page nodes (suc j) ns (next nodes j b c)))
  combined-step nodes j n ns a b =
      combined-runs f n (λ c. page nodes (suc j) ns (next nodes j a c)) (λ c. page nodes (suc j) ns (next nodes j b c))
      (λ c. length-page nodes (suc j) ns (next nodes j a c) ∙ sym (length-page nodes (suc j) ns (next nodes j b c)))

  -- decisions are passed on in every cell, so they are combined at once
  pub combined_decisions : (nodes : List Node) (j : ℕ) (ns : List ℕ) (d e : ℕ)
      → combined f (page nodes j ns (Decision d)) (page nodes j ns (Decision e)) ≡ page nodes j ns (Decision (f d e))
  combined_decisions nodes j [] d e = refl
  combined_decisions nodes j (n ∷ ns) d e =
      combined-step nodes j n ns (Decision d) (Decision e)
      ∙ runs_same n (λ c. combined f (page nodes (suc j) ns (Decision d)) (page nodes (suc j) ns (Decision e))) (λ c. page nodes (suc j) ns (Decision (f d e)))
      (λ c i. combined_decisions nodes (suc j) ns d e)

module _ (f : ℕ → ℕ) where
  -- an operator on one link goes cell by cell, as an image of runs is made of images
  pub map-step : (nodes : List Node) (j n : ℕ) (ns : List ℕ) (l : Link) → map f (page nodes j (n ∷ ns) l) ≡ runs n (λ c. map f (page nodes (suc j) ns (next nodes j l c)))
  map-step nodes j n ns l = map_runs f n (λ c. page nodes (suc j) ns (next nodes j l c))

  -- and settles a decision at once, for it is passed on in every cell
  pub map-decision : (nodes : List Node) (j : ℕ) (ns : List ℕ) (d : ℕ) → map f (page nodes j ns (Decision d)) ≡ page nodes j ns (Decision (f d))
  map-decision nodes j [] d = refl
  map-decision nodes j (n ∷ ns) d =
      map-step nodes j n ns (Decision d)
      ∙ runs_same n (λ c. map f (page nodes (suc j) ns (Decision d))) (λ c. page nodes (suc j) ns (Decision (f d))) (λ c i. map-decision nodes (suc j) ns d)

-- a decision is the same at each number, for it is passed on in every cell
pub page-decision : (nodes : List Node) (j : ℕ) (ns : List ℕ) (d : ℕ) → page nodes j ns (Decision d) ≡ replicate (grid ns) d
page-decision nodes j [] d = refl
page-decision nodes j (n ∷ ns) d =
    runs_same n (λ c. page nodes (suc j) ns (Decision d)) (λ c. replicate (grid ns) d) (λ c i. page-decision nodes (suc j) ns d) ∙ constant n
  where
    constant : (m : ℕ) → runs m (λ c. replicate (grid ns) d) ≡ replicate (m * grid ns) d
    constant zero = ap (λ (k : ℕ). replicate k d) (sym (zero-mul (grid ns)))
    constant (suc m) =
        let e : grid ns + m * grid ns ≡ suc m * grid ns = omega (arith, suc-mul m (grid ns)) in
        ap (λ r. replicate (grid ns) d ++ r) (constant m) ∙ replicate-append-replicate (grid ns) (m * grid ns) d ∙ ap (λ (k : ℕ). replicate k d) e

-- ---- on a sound set
module _ (k : ℕ) (shape : List ℕ) (nodes : List Node) (Live : ℕ → Type 0) (sound : Sound k shape nodes Live) where
  -- past the last attribute a link that may stand is a decision, so a code
  ends_in_code : (j : ℕ) → length shape ≤ j → (l : Link) → Fit k nodes Live j l → decision l < k
  ends_in_code j h (Decision d) f = f
  ends_in_code j h (Record r) f = let i = (sound.each_is_proper r f.0).at_an_attribute in let u = f.1 in absurd (omega arith)

  -- each walk comes there, by induction on the shape that is left
  pub walk-below : (j : ℕ) (ns : List ℕ) → drop j shape ≡ ns → (l : Link) → Fit k nodes Live j l → (cells : List ℕ) → Cells ns cells → walk nodes j cells l < k
  walk-below j [] e l f [] h = ends_in_code j (drop_end shape j e) l f
  walk-below j [] e l f (c ∷ cs) h = absurd h
  walk-below j (n ∷ ns) e l f [] h = absurd h
  walk-below j (n ∷ ns) e l f (c ∷ cs) h =
      let s = drop-step shape j n ns e in
      walk-below (suc j) ns s.2 (next nodes j l c) (next_fit k shape nodes Live sound j n s.1 l f c h.0) cs h.1

  -- and so each decision of the page
  pub page-below : (j : ℕ) (ns : List ℕ) → drop j shape ≡ ns → (l : Link) → Fit k nodes Live j l → AllByRecursion (λ d. d < k) (page nodes j ns l)
  page-below j [] e l f = (ends_in_code j (drop_end shape j e) l f, tt)
  page-below j (n ∷ ns) e l f =
      let s = drop-step shape j n ns e in
      all_runs (λ d. d < k) n (λ c. page nodes (suc j) ns (next nodes j l c))
      (λ c i. page-below (suc j) ns s.2 (next nodes j l c) (next_fit k shape nodes Live sound j n s.1 l f c i))

  -- links whose walks agree have one page, so they are one link
  pub alike_walks : Filled shape → (a b : Link) → Fit k nodes Live 0 a → Fit k nodes Live 0 b → ((cells : List ℕ) → Cells shape cells → walk nodes 0 cells a ≡ walk nodes 0 cells b) → a ≡ b
  alike_walks filled a b f g h =
      canonical k shape nodes Live sound filled 0 shape refl a b f g
      (page_walks nodes 0 shape a ∙ paged-same shape (λ cells. walk nodes 0 cells a) (λ cells. walk nodes 0 cells b) h ∙ sym (page_walks nodes 0 shape b))

-- length, decisions and walks together
pub links_denote : LinksDenoteTheirWalks
links_denote nodes j ns l = record { as_long_as_the_grid = length-page nodes j ns l; decides_by_the_walk = page-at nodes j ns l; made_of_the_walks = page_walks nodes j ns l }

-- the five facts on operators together
pub operators_act : OperatorsActCellByCell
operators_act nodes j =
    record {
      two_links_cell_by_cell = λ f. combined-step f nodes j;
      two_decisions_at_once = λ f. combined_decisions f nodes j;
      one_link_cell_by_cell = λ f. map-step f nodes j;
      one_decision_at_once = λ f. map-decision f nodes j;
      a_decision_everywhere = page-decision nodes j;
    }
