-- Pairs of links under an operator are places.
use Rattle.std.proofs.Common.{◌≡◌, ℕ, suc, ◌<◌, ◌≤◌, min, Bool, true, false, cond, List, [], ◌∷◌, map, length, get_or, drop, replicate, sym, refl, ap, ◌∙◌, subst, ap₂, inl, arith, drop-cons}
use Rattle.std.specs.List.{AllByRecursion}
use Rattle.std.proofs.lemmas.Bool.{both_ways}
use Rattle.algebra.specs.Tables.{Tables}
use Rattle.algebra.specs.Laws.{ShortCutLaws}
use Rattle.vocabulary.specs.Grid.{grid}
use Rattle.pages.specs.Pages.{chunk}
use Rattle.pages.specs.Operators.{combined}
use Rattle.pages.proofs.Runs.{chunk-runs}
use Rattle.pages.proofs.Operating.{combined-runs, length-combined}
use Rattle.marking.specs.Marks.{Marked}
use Rattle.diagram.specs.declared.Node.{Node}
use Rattle.diagram.specs.declared.Link.{Link}
use Rattle.diagram.specs.declared.Link.TheVariants.{Decision, Record}
use Rattle.diagram.specs.Diagram.{node, next, page}
use Rattle.diagram.specs.Sound.{Fit, Sound}
use Rattle.diagram.proofs.Denoting.{length-page, next_fit, page_frame}
use Rattle.diagram.proofs.Making.{page_skip}
use Rattle.diagram.proofs.Changing.{fit_frame}
use Rattle.diagram.proofs.Walks.{combined-step, combined_decisions, page-decision, page-below}
use Rattle.places.specs.declared.Seen.{Seen}
use Rattle.places.specs.Places.{KeepWhileMemoryGrows, FillTheGrid, LeadsTo, SettledBy, SeenAs}
use Rattle.making.specs.declared.operator.Operator.{Operator}
use Rattle.making.specs.declared.pairs.Pair.{Pair}
use Rattle.making.specs.Operators.{operator_of}
use Rattle.making.specs.Levels.{BranchesWithin, is_settled}
use Rattle.making.specs.Pairs.{pair_stands, pair_says, first_level, is_decision, AtOnce, SettledJustAtOnce}
use Rattle.making.proofs.Keeping.{zero_below, operator_below}
use Rattle.making.proofs.Seeing.{OneLevel, rises, seen-within, unsettled_within}

-- ---- short cuts on pages of codes
-- a decision that is kept, or 0
abbrev kept_or : Bool → ℕ → ℕ
kept_or keep a = cond keep a 0

-- a page of which each decision is kept is kept
map_kept : (p : List ℕ) → map (kept_or true) p ≡ p
map_kept [] = refl
map_kept (x ∷ p) = ap (λ (r : List ℕ). x ∷ r) (map_kept p)

-- one of which none is kept is 0 everywhere
map_lost : (p : List ℕ) → map (kept_or false) p ≡ replicate (length p) 0
map_lost [] = refl
map_lost (x ∷ p) = ap (λ (r : List ℕ). 0 ∷ r) (map_lost p)

module _ (f : ℕ → ℕ → ℕ) (h : ℕ → ℕ) (k : ℕ) where
  -- a page with itself, decision by decision
  combined_self : ((a : ℕ) → a < k → f a a ≡ h a) → (p : List ℕ) → AllByRecursion (λ d. d < k) p → combined f p p ≡ map h p
  combined_self e [] b = refl
  combined_self e (x ∷ p) b = ap₂ (λ (y : ℕ) (r : List ℕ). y ∷ r) (e x b.0) (combined_self e p b.1)

  -- a page with 0 on its left
  combined-left : ((b : ℕ) → b < k → f 0 b ≡ h b) → (q : List ℕ) → AllByRecursion (λ d. d < k) q → combined f (replicate (length q) 0) q ≡ map h q
  combined-left e [] b = refl
  combined-left e (x ∷ q) b = ap₂ (λ (y : ℕ) (r : List ℕ). y ∷ r) (e x b.0) (combined-left e q b.1)

  -- a page with 0 on its right
  combined-right : ((a : ℕ) → a < k → f a 0 ≡ h a) → (p : List ℕ) → AllByRecursion (λ d. d < k) p → combined f p (replicate (length p) 0) ≡ map h p
  combined-right e [] b = refl
  combined-right e (x ∷ p) b = ap₂ (λ (y : ℕ) (r : List ℕ). y ∷ r) (e x b.0) (combined-right e p b.1)

module _ (o : Operator) (t : Tables) where
  abbrev f : ℕ → ℕ → ℕ
  f = operator_of o t

  -- the pages of two links are as long, so the combined one is
  long : (nodes : List Node) (j : ℕ) (ns : List ℕ) (a b : Link) → length (combined f (page nodes j ns a) (page nodes j ns b)) ≡ grid ns
  long nodes j ns a b = length-combined f (page nodes j ns a) (page nodes j ns b) (length-page nodes j ns a ∙ sym (length-page nodes j ns b)) ∙ length-page nodes j ns a

  -- live records stay as memory grows, so links fit and denote what they did
  pub pairs_keep : (k : ℕ) (shape : List ℕ) → KeepWhileMemoryGrows (pair_stands t) (pair_says o t) k shape
  pairs_keep k shape nodes marks nodes' marks' j p sound grown st =
      let fit : (l : Link) → Fit k nodes (Marked marks) j l → Fit k nodes' (Marked marks') j l = fit_frame k shape nodes nodes' (Marked marks) (Marked marks') grown.live_records_stay grown.live_stays_live j in
      let same : (l : Link) → Fit k nodes (Marked marks) j l → page nodes' j (drop j shape) l ≡ page nodes j (drop j shape) l = page_frame k shape nodes (Marked marks) sound nodes' grown.live_records_stay j (drop j shape) refl in (
        record { codes_of_the_algebra = st.codes_of_the_algebra; left_fits = fit p.left st.left_fits; right_fits = fit p.right st.right_fits },
        ap₂ (combined f) (same p.left st.left_fits) (same p.right st.right_fits),
      )

  -- a pair says as many decisions as its links
  pub pairs_fill : (k : ℕ) (shape : List ℕ) → FillTheGrid (pair_stands t) (pair_says o t) k shape
  pairs_fill k shape nodes marks j p st = long nodes j (drop j shape) p.left p.right

  module _ (k : ℕ) (shape : List ℕ) (nodes : List Node) (marks : List ℕ) (j : ℕ) (p : Pair) where
    -- where both links lead is the pair in that cell
    pub pairs_lead : (c : ℕ) (q : Pair) → q.left ≡ next nodes j p.left c → q.right ≡ next nodes j p.right c → LeadsTo (pair_stands t) (pair_says o t) k shape nodes marks j p c q
    pairs_lead c q l r sound st low small =
        let n : ℕ = get_or shape j 0 in
        let ns : List ℕ = drop (suc j) shape in
        let fit : (a b : Link) → b ≡ next nodes j a c → Fit k nodes (Marked marks) j a → Fit k nodes (Marked marks) (suc j) b =
        λ a b e h. subst (Fit k nodes (Marked marks) (suc j)) (sym e) (next_fit k shape nodes (Marked marks) sound j n refl a h c small)
        in (
          record { codes_of_the_algebra = st.codes_of_the_algebra; left_fits = fit p.left q.left l st.left_fits; right_fits = fit p.right q.right r st.right_fits },
          ap₂ (λ a b. combined f (page nodes (suc j) ns a) (page nodes (suc j) ns b)) l r
              ∙ sym
              (ap (λ s. chunk (grid ns) (combined f (page nodes j s p.left) (page nodes j s p.right)) c) (drop-cons shape j 0 low)
              ∙ ap (λ w. chunk (grid ns) w c) (combined-step f nodes j n ns p.left p.right)
              ∙ chunk-runs n (grid ns) (λ c. combined f (page nodes (suc j) ns (next nodes j p.left c)) (page nodes (suc j) ns (next nodes j p.right c)))
              (λ c. long nodes (suc j) ns (next nodes j p.left c) (next nodes j p.right c)) c small),
        )

    -- a pair says the same in each cell up to a level that no record of its links is before
    pub pairs_skip : (i : ℕ) → Sound k shape nodes (Marked marks) → pair_stands t k shape nodes marks j p → j ≤ i → i < length shape
        → ((r : ℕ) → p.left ≡ Record r → i ≤ (node nodes r).level) → ((r : ℕ) → p.right ≡ Record r → i ≤ (node nodes r).level) → OneLevel (pair_stands t) (pair_says o t) k shape nodes marks j p i
    pairs_skip i sound st over low hl hr =
        let left : (m : ℕ) → m ≤ i → Fit k nodes (Marked marks) m p.left = λ m h. rises k nodes (Marked marks) j p.left st.left_fits m (λ r e. let z = hl r e in omega arith) in
        let right : (m : ℕ) → m ≤ i → Fit k nodes (Marked marks) m p.right = λ m h. rises k nodes (Marked marks) j p.right st.right_fits m (λ r e. let z = hr r e in omega arith) in
        record {
          not_before = over;
          of_the_shape = low;
          same_until =
              record {
                stands_at_each = λ m x y. record { codes_of_the_algebra = st.codes_of_the_algebra; left_fits = left m y; right_fits = right m y };
                same_in_each_cell =
                    λ m x y.
                    let n : ℕ = get_or shape m 0 in
                    let ns : List ℕ = drop (suc m) shape in
                    ap (λ s. combined f (page nodes m s p.left) (page nodes m s p.right)) (drop-cons shape m 0 (omega arith))
                    ∙ ap₂ (combined f) (page_skip k nodes (Marked marks) m n ns p.left (left (suc m) (omega arith))) (page_skip k nodes (Marked marks) m n ns p.right (right (suc m) (omega arith)))
                    ∙ combined-runs f n (λ c. page nodes (suc m) ns p.left) (λ c. page nodes (suc m) ns p.right) (λ c. length-page nodes (suc m) ns p.left ∙ sym (length-page nodes (suc m) ns p.right));
              };
        }

    -- so one that is not settled at once has such a level: the first of its records, which on sound memory is of the shape
    pub first_is_one : (AtOnce p → ⊥) → Sound k shape nodes (Marked marks) → pair_stands t k shape nodes marks j p → OneLevel (pair_stands t) (pair_says o t) k shape nodes marks j p (first_level nodes p.left p.right)
    first_is_one later sound st = go p.left p.right refl refl
      where
        at : (l : Link) (r : ℕ) → l ≡ Record r → Fit k nodes (Marked marks) j l → (j ≤ (node nodes r).level) × ((node nodes r).level < length shape)
        at l r e fit = let h = subst (Fit k nodes (Marked marks) j) e fit in (h.1, (sound.each_is_proper r h.0).at_an_attribute)

        record_is : (l : Link) (r s : ℕ) → l ≡ Record r → l ≡ Record s → r ≡ s
        record_is l r s a b = cc

        no_record : (l : Link) (d s : ℕ) → l ≡ Decision d → l ≡ Record s → ⊥
        no_record l d s a b = let z : ◌≡◌ {A = ℕ} 0 1 = cc in omega arith

        level_is : (l : Link) (r s : ℕ) → l ≡ Record r → l ≡ Record s → (node nodes r).level ≡ (node nodes s).level
        level_is l r s a b = ap (λ (i : ℕ). (node nodes i).level) (record_is l r s a b)

        go : (a b : Link) → p.left ≡ a → p.right ≡ b → OneLevel (pair_stands t) (pair_says o t) k shape nodes marks j p (first_level nodes a b)
        go (Decision a) (Decision b) l r = absurd (later (inl (ap is_decision l, ap is_decision r)))
        go (Decision a) (Record s) l r =
            let h = at p.right s r st.right_fits in
            pairs_skip (node nodes s).level sound st h.0 h.1 (λ u e. absurd (no_record p.left a u l e)) (λ u e. let q = level_is p.right s u r e in omega arith)
        go (Record s) (Decision b) l r =
            let h = at p.left s l st.left_fits in
            pairs_skip (node nodes s).level sound st h.0 h.1 (λ u e. let q = level_is p.left s u l e in omega arith) (λ u e. absurd (no_record p.right b u r e))
        go (Record s) (Record u) l r =
            let h = at p.left s l st.left_fits in
            let i = at p.right u r st.right_fits in
            let h0 = h.0 in
            let h1 = h.1 in
            let i0 = i.0 in
            pairs_skip (min (node nodes s).level (node nodes u).level) sound st (omega arith) (omega arith) (λ v e. let q = level_is p.left s v l e in omega arith)
            (λ v e. let q = level_is p.right u v r e in omega arith)

  module _ (shape : List ℕ) (nodes : List Node) (j : ℕ) (p : Pair) (i : ℕ) (is : i ≡ first_level nodes p.left p.right) (later : AtOnce p → ⊥) (r : Seen) (w : BranchesWithin shape j i r) where
    -- on sound memory the level of its first record serves
    one_level : (k : ℕ) (marks : List ℕ) → Sound k shape nodes (Marked marks) → pair_stands t k shape nodes marks j p → OneLevel (pair_stands t) (pair_says o t) k shape nodes marks j p i
    one_level k marks sound st = subst (OneLevel (pair_stands t) (pair_says o t) k shape nodes marks j p) (sym is) (first_is_one k shape nodes marks j p later sound st)

    -- so a pair that is not settled at once is seen to branch there
    pub seen_to_branch : SeenAs (pair_stands t) (pair_says o t) shape nodes j p r
    seen_to_branch = seen-within (pair_stands t) (pair_says o t) shape nodes j p i one_level r w

    -- and is not seen to be settled
    pub not_settled : SettledJustAtOnce t shape nodes j p r
    not_settled k marks sound st =
        let u = unsettled_within (pair_stands t) (pair_says o t) shape nodes j p i one_level r w k marks sound st in
        (λ e. absurd (both_ways (is_settled r) u e), λ a. absurd (later a))

  module _ (laws : ShortCutLaws t) (k : ℕ) (shape : List ℕ) (nodes : List Node) (marks : List ℕ) (j : ℕ) (p : Pair) where
    -- two decisions are combined at once
    pub settled_by_decisions : (a b d : ℕ) → p.left ≡ Decision a → p.right ≡ Decision b → d ≡ f a b → SettledBy (pair_stands t) (pair_says o t) k shape nodes marks j p (Decision d)
    settled_by_decisions a b d l r e sound st =
        let s = st.codes_of_the_algebra in
        let ha : a < k = subst (Fit k nodes (Marked marks) j) l st.left_fits in
        let hb : b < k = subst (Fit k nodes (Marked marks) j) r st.right_fits in
        let z : f a b < t.size = operator_below o t laws a b (omega arith) (omega arith) in (
          subst (λ (i : ℕ). i < k) (sym e) (omega arith),
          ap (λ (i : ℕ). page nodes j (drop j shape) (Decision i)) e ∙ sym (combined_decisions f nodes j (drop j shape) a b)
              ∙ sym (ap₂ (λ x y. combined f (page nodes j (drop j shape) x) (page nodes j (drop j shape) y)) l r),
        )

    -- not applicable is 0 at as many numbers as any link has
    blank : (l : Link) → page nodes j (drop j shape) (Decision 0) ≡ replicate (length (page nodes j (drop j shape) l)) 0
    blank l = page-decision nodes j (drop j shape) 0 ∙ ap (λ (m : ℕ). replicate m 0) (sym (length-page nodes j (drop j shape) l))

    -- what is kept of a link, or not applicable, denotes what is kept of its page
    short : (keep : Bool) (one : Link) → Fit k nodes (Marked marks) j one → 0 < k → (said : List ℕ) → said ≡ map (kept_or keep) (page nodes j (drop j shape) one)
        → Fit k nodes (Marked marks) j (cond keep one (Decision 0)) × (page nodes j (drop j shape) (cond keep one (Decision 0)) ≡ said)
    short true one fit pos said e = (fit, sym (e ∙ map_kept (page nodes j (drop j shape) one)))
    short false one fit pos said e = (pos, blank one ∙ sym (e ∙ map_lost (page nodes j (drop j shape) one)))

    module _ (keep : Bool) (l : Link) where
      -- equal sides
      pub settled_by_same : p.left ≡ p.right → ((a : ℕ) → a < t.size → f a a ≡ cond keep a 0) → l ≡ cond keep p.left (Decision 0) → SettledBy (pair_stands t) (pair_says o t) k shape nodes marks j p l
      settled_by_same q e is sound st =
          let s = st.codes_of_the_algebra in
          let pos = zero_below t laws in
          subst (λ x. Fit k nodes (Marked marks) j x × (page nodes j (drop j shape) x ≡ pair_says o t shape nodes j p)) (sym is)
          (short keep p.left st.left_fits (omega arith) (pair_says o t shape nodes j p)
          (ap (λ x. combined f (page nodes j (drop j shape) p.left) (page nodes j (drop j shape) x)) (sym q)
          ∙ combined_self f (kept_or keep) k (λ a h. e a (omega arith)) (page nodes j (drop j shape) p.left) (page-below k shape nodes (Marked marks) sound j (drop j shape) refl p.left st.left_fits)))

      -- not applicable on the left
      pub settled_by_right : p.left ≡ Decision 0 → ((b : ℕ) → b < t.size → f 0 b ≡ cond keep b 0) → l ≡ cond keep p.right (Decision 0) → SettledBy (pair_stands t) (pair_says o t) k shape nodes marks j p l
      settled_by_right q e is sound st =
          let s = st.codes_of_the_algebra in
          let pos = zero_below t laws in
          subst (λ x. Fit k nodes (Marked marks) j x × (page nodes j (drop j shape) x ≡ pair_says o t shape nodes j p)) (sym is)
          (short keep p.right st.right_fits (omega arith) (pair_says o t shape nodes j p)
          (ap (λ w. combined f w (page nodes j (drop j shape) p.right)) (ap (page nodes j (drop j shape)) q ∙ blank p.right)
          ∙ combined-left f (kept_or keep) k (λ b h. e b (omega arith)) (page nodes j (drop j shape) p.right) (page-below k shape nodes (Marked marks) sound j (drop j shape) refl p.right st.right_fits)))

      -- not applicable on the right
      pub settled_by_left : p.right ≡ Decision 0 → ((a : ℕ) → a < t.size → f a 0 ≡ cond keep a 0) → l ≡ cond keep p.left (Decision 0) → SettledBy (pair_stands t) (pair_says o t) k shape nodes marks j p l
      settled_by_left q e is sound st =
          let s = st.codes_of_the_algebra in
          let pos = zero_below t laws in
          subst (λ x. Fit k nodes (Marked marks) j x × (page nodes j (drop j shape) x ≡ pair_says o t shape nodes j p)) (sym is)
          (short keep p.left st.left_fits (omega arith) (pair_says o t shape nodes j p)
          (ap (λ w. combined f (page nodes j (drop j shape) p.left) w) (ap (page nodes j (drop j shape)) q ∙ blank p.left)
          ∙ combined-right f (kept_or keep) k (λ a h. e a (omega arith)) (page nodes j (drop j shape) p.left) (page-below k shape nodes (Marked marks) sound j (drop j shape) refl p.left st.left_fits)))
