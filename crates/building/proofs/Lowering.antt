-- What says the same in each cell of a level is built as at the next level.
use Rattle.std.proofs.Common.{◌≡◌, ℕ, zero, suc, ◌+◌, ◌-◌, ◌<◌, ◌≤◌, List, length, get_or, drop, Some, None, Option, sym, ap, ◌∙◌, subst, arith, drop-cons}
use Rattle.vocabulary.specs.Grid.{grid, Filled}
use Rattle.pages.specs.Pages.{runs}
use Rattle.pages.specs.Parts.{Part}
use Rattle.diagram.specs.declared.Node.{Node}
use Rattle.diagram.specs.declared.Link.{Link}
use Rattle.diagram.specs.Diagram.{page}
use Rattle.diagram.proofs.Making.{page_skip}
use Rattle.table.specs.Built.{CoversBoth, Built}
use Rattle.table.proofs.Branching.{cell_within}
use Rattle.table.proofs.Reducing.{lower}

module _ (k : ℕ) (shape : List ℕ) (filled : Filled shape) (nodes : List Node) (Live : ℕ → Type 0) (nodes' : List Node) (Live' : ℕ → Type 0) where
  module _ (m : ℕ) (low : m < length shape) (w : List ℕ) (long : length w ≡ grid (drop (suc m) shape)) where
    -- what covers the page that says w in each cell covers w
    inner : (ps : List Part) → CoversBoth shape nodes Live m (runs (get_or shape m 0) (λ c. w)) ps → CoversBoth shape nodes Live (suc m) w ps
    inner ps t = (t.0, λ q x. t.1 q (cell_within shape m low (λ c. w) (λ c _. long) 0 (filled m low) q x))

    -- one level
    lower_one : (r : Option Link) → Built k shape nodes Live nodes' Live' (suc m) w r → Built k shape nodes Live nodes' Live' m (runs (get_or shape m 0) (λ c. w)) r
    lower_one (Some l) h =
        record {
          memory_has_grown = h.memory_has_grown;
          only_parts_of_the_page_came = λ ps t. h.only_parts_of_the_page_came ps (inner ps t);
          link_or_lack = (
            lower k nodes' Live' m l h.link_or_lack.0,
            ap (λ s. page nodes' m s l) (drop-cons shape m 0 low)
                ∙ page_skip k nodes' Live' m (get_or shape m 0) (drop (suc m) shape) l h.link_or_lack.0
                ∙ ap (λ v. runs (get_or shape m 0) (λ c. v)) h.link_or_lack.1,
          );
        }
    lower_one None h =
        record {
          memory_has_grown = h.memory_has_grown;
          only_parts_of_the_page_came = λ ps t. h.only_parts_of_the_page_came ps (inner ps t);
          link_or_lack = λ ps t. h.link_or_lack ps (inner ps t);
        }

  module _ (Q : ℕ → List ℕ) (r : Option Link) where
    lower_by : (d i : ℕ) → ((m : ℕ) → i ≤ m → m < d + i → Q m ≡ runs (get_or shape m 0) (λ c. Q (suc m))) → ((m : ℕ) → i ≤ m → m ≤ d + i → length (Q m) ≡ grid (drop m shape)) → d + i < length shape
        → Built k shape nodes Live nodes' Live' (d + i) (Q (d + i)) r → Built k shape nodes Live nodes' Live' i (Q i) r
    lower_by zero i flat long low h = let e : 0 + i ≡ i = omega arith in subst (λ (m : ℕ). Built k shape nodes Live nodes' Live' m (Q m) r) e h
    lower_by (suc d) i flat long low h =
        let e : suc d + i ≡ suc (d + i) = omega arith in
        lower_by d i (λ m a b. flat m a (omega arith)) (λ m a b. long m a (omega arith)) (omega arith)
        (subst (λ v. Built k shape nodes Live nodes' Live' (d + i) v r) (sym (flat (d + i) (omega arith) (omega arith)))
        (lower_one (d + i) (omega arith) (Q (suc (d + i))) (long (suc (d + i)) (omega arith) (omega arith)) r
        (subst (λ (m : ℕ). Built k shape nodes Live nodes' Live' m (Q m) r) e h)))

    -- from level j down to level i
    pub lower_to : (i j : ℕ) → i ≤ j → j < length shape → ((m : ℕ) → i ≤ m → m < j → Q m ≡ runs (get_or shape m 0) (λ c. Q (suc m))) → ((m : ℕ) → i ≤ m → m ≤ j → length (Q m) ≡ grid (drop m shape))
        → Built k shape nodes Live nodes' Live' j (Q j) r → Built k shape nodes Live nodes' Live' i (Q i) r
    lower_to i j l low flat long h =
        let e : j ≡ (j - i) + i = omega arith in
        lower_by (j - i) i (λ m a b. flat m a (omega arith)) (λ m a b. long m a (omega arith)) (omega arith)
        (subst (λ (m : ℕ). Built k shape nodes Live nodes' Live' m (Q m) r) e h)
