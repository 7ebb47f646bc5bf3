-- Links under negation are places.
use Rattle.std.proofs.Common.{◌≡◌, ℕ, suc, ◌<◌, ◌≤◌, List, map, length, get_or, drop, sym, refl, ap, ◌∙◌, subst, arith, drop-cons}
use Rattle.std.proofs.lemmas.List.{length-map}
use Rattle.algebra.specs.Tables.{Tables}
use Rattle.algebra.specs.Laws.{ShortCutLaws}
use Rattle.vocabulary.specs.Grid.{grid}
use Rattle.pages.specs.Pages.{chunk}
use Rattle.pages.proofs.Runs.{chunk-runs, map_runs}
use Rattle.marking.specs.Marks.{Marked}
use Rattle.diagram.specs.declared.Node.{Node}
use Rattle.diagram.specs.declared.Link.{Link}
use Rattle.diagram.specs.declared.Link.TheVariants.{Decision, Record}
use Rattle.diagram.specs.Diagram.{node, next, page}
use Rattle.diagram.specs.Sound.{Fit, Sound}
use Rattle.diagram.proofs.Denoting.{length-page, next_fit, page_frame}
use Rattle.diagram.proofs.Making.{page_skip}
use Rattle.diagram.proofs.Changing.{fit_frame}
use Rattle.diagram.proofs.Walks.{map-step, map-decision}
use Rattle.places.specs.declared.Seen.{Seen}
use Rattle.places.specs.Places.{KeepWhileMemoryGrows, FillTheGrid, LeadsTo, SettledBy, SeenAs}
use Rattle.making.specs.Levels.{BranchesWithin}
use Rattle.making.specs.Negations.{negation_stands, negation_says}
use Rattle.making.proofs.Seeing.{OneLevel, seen-within}

module _ (t : Tables) where
  -- an image is as long as the page
  long : (nodes : List Node) (j : ℕ) (ns : List ℕ) (l : Link) → length (map t.negation (page nodes j ns l)) ≡ grid ns
  long nodes j ns l = length-map (page nodes j ns l) t.negation ∙ length-page nodes j ns l

  -- live records stay as memory grows, so a link fits and denotes what it did
  pub negations_keep : (k : ℕ) (shape : List ℕ) → KeepWhileMemoryGrows (negation_stands t) (negation_says t) k shape
  negations_keep k shape nodes marks nodes' marks' j l sound grown st = (
    record {
      codes_of_the_algebra = st.codes_of_the_algebra;
      link_fits = fit_frame k shape nodes nodes' (Marked marks) (Marked marks') grown.live_records_stay grown.live_stays_live j l st.link_fits;
    },
    ap (map t.negation) (page_frame k shape nodes (Marked marks) sound nodes' grown.live_records_stay j (drop j shape) refl l st.link_fits),
  )

  -- a link says as many decisions as its page has
  pub negations_fill : (k : ℕ) (shape : List ℕ) → FillTheGrid (negation_stands t) (negation_says t) k shape
  negations_fill k shape nodes marks j l st = long nodes j (drop j shape) l

  module _ (k : ℕ) (shape : List ℕ) (nodes : List Node) (marks : List ℕ) (j : ℕ) (l : Link) where
    -- where the link leads is the link in that cell
    pub negations_lead : (c : ℕ) (q : Link) → q ≡ next nodes j l c → LeadsTo (negation_stands t) (negation_says t) k shape nodes marks j l c q
    negations_lead c q e sound st low small =
        let n : ℕ = get_or shape j 0 in
        let ns : List ℕ = drop (suc j) shape in (
          record {
            codes_of_the_algebra = st.codes_of_the_algebra;
            link_fits = subst (Fit k nodes (Marked marks) (suc j)) (sym e) (next_fit k shape nodes (Marked marks) sound j n refl l st.link_fits c small);
          },
          ap (λ a. map t.negation (page nodes (suc j) ns a)) e
              ∙ sym
              (ap (λ s. chunk (grid ns) (map t.negation (page nodes j s l)) c) (drop-cons shape j 0 low)
              ∙ ap (λ w. chunk (grid ns) w c) (map-step t.negation nodes j n ns l)
              ∙ chunk-runs n (grid ns) (λ c. map t.negation (page nodes (suc j) ns (next nodes j l c))) (λ c. long nodes (suc j) ns (next nodes j l c)) c small),
        )

    -- a decision is negated at once
    pub negations_settle : ShortCutLaws t → (d e : ℕ) → l ≡ Decision d → e ≡ t.negation d → SettledBy (negation_stands t) (negation_says t) k shape nodes marks j l (Decision e)
    negations_settle laws d e is q sound st =
        let s = st.codes_of_the_algebra in
        let h : d < k = subst (Fit k nodes (Marked marks) j) is st.link_fits in
        let z : t.negation d < t.size = laws.negation_below_size d (omega arith) in (
          omega arith,
          ap (λ (i : ℕ). page nodes j (drop j shape) (Decision i)) q ∙ sym (map-decision t.negation nodes j (drop j shape) d) ∙ ap (λ x. map t.negation (page nodes j (drop j shape) x)) (sym is),
        )

    -- a record is passed on until its level, which on sound memory is of the shape
    level_is_one : (r i : ℕ) → l ≡ Record r → i ≡ (node nodes r).level → Sound k shape nodes (Marked marks) → negation_stands t k shape nodes marks j l
        → OneLevel (negation_stands t) (negation_says t) k shape nodes marks j l i
    level_is_one r i is at sound st =
        let h = subst (Fit k nodes (Marked marks) j) is st.link_fits in
        let h1 = h.1 in
        let low = (sound.each_is_proper r h.0).at_an_attribute in
        let fit : (m : ℕ) → m ≤ i → Fit k nodes (Marked marks) m l = λ m b. subst (Fit k nodes (Marked marks) m) (sym is) (h.0, omega arith) in
        record {
          not_before = omega arith;
          of_the_shape = omega arith;
          same_until =
              record {
                stands_at_each = λ m a b. record { codes_of_the_algebra = st.codes_of_the_algebra; link_fits = fit m b };
                same_in_each_cell =
                    λ m a b.
                    let n : ℕ = get_or shape m 0 in
                    let ns : List ℕ = drop (suc m) shape in
                    ap (λ s. map t.negation (page nodes m s l)) (drop-cons shape m 0 (omega arith))
                    ∙ ap (map t.negation) (page_skip k nodes (Marked marks) m n ns l (fit (suc m) (omega arith)))
                    ∙ map_runs t.negation n (λ c. page nodes (suc m) ns l);
              };
        }

  -- so it is seen to branch there
  pub negations_branch : (shape : List ℕ) (nodes : List Node) (j : ℕ) (l : Link) (r i : ℕ) → l ≡ Record r → i ≡ (node nodes r).level → (seen : Seen) → BranchesWithin shape j i seen
      → SeenAs (negation_stands t) (negation_says t) shape nodes j l seen
  negations_branch shape nodes j l r i is at = seen-within (negation_stands t) (negation_says t) shape nodes j l i (λ k marks. level_is_one k shape nodes marks j l r i is at)
