-- Links under projection by masks are places.
use Rattle.std.proofs.Common.{◌≡◌, ℕ, zero, suc, ◌+◌, ◌-◌, ◌%◌, ◌^◌, ◌<◌, ◌≤◌, Bool, true, false, cond, ◌&&◌, eqb, List, [], ◌∷◌, length, get_or, drop, sym, refl, ap, ◌∙◌, subst, ⊎_elim, arith, length-drop, drop-cons, pow_mono}
use native.Mathlib.Nat.{div-eq_of_lt}
use Rattle.std.proofs.lemmas.List.{get_or-drop}
use Rattle.std.proofs.lemmas.Bool.{both_ways, eq-eqb, cases_lt}
use Rattle.vocabulary.specs.Grid.{grid, number, Cells}
use Rattle.pages.specs.Pages.{chunk, runs, paged}
use Rattle.pages.specs.Projection.{has_bit, allowed, kept_by, projected}
use Rattle.pages.proofs.Runs.{chunk-runs, runs_same}
use Rattle.pages.proofs.Operating.{length-paged, paged-same}
use Rattle.pages.proofs.Projecting.{all_allowed}
use Rattle.marking.specs.Marks.{Marked}
use Rattle.diagram.specs.declared.Node.{Node}
use Rattle.diagram.specs.declared.Link.{Link}
use Rattle.diagram.specs.declared.Link.TheVariants.{Decision, Record}
use Rattle.diagram.specs.Diagram.{node, next, decision, walk, page}
use Rattle.diagram.specs.Sound.{Fit, Sound}
use Rattle.diagram.proofs.Denoting.{next_fit, page_frame, View, flat, at, view}
use Rattle.diagram.proofs.Changing.{fit_frame}
use Rattle.diagram.proofs.Walks.{page-at, page_walks}
use Rattle.places.specs.Places.{KeepWhileMemoryGrows, FillTheGrid, LeadsTo, SettledBy, SaysTheSameUntil}
use Rattle.making.specs.Projections.{projection_stands, projection_says, stands_at, PassedOn}

-- ---- bits
-- a mask of sixteen bits has no other, for it is below the power that a further bit stands for
pub no_further_bit : (mask bit : ℕ) → mask < 2 ^ 16 → 16 ≤ bit → has_bit mask bit ≡ false
no_further_bit mask bit small far =
    let p : 2 ^ 16 ≤ 2 ^ bit = pow_mono far in
    let below : mask < 2 ^ bit = omega arith in
    ap (λ (q : ℕ). eqb (q % 2) 1) (div-eq_of_lt below)

-- ---- decisions
-- every walk from a decision leads to it, for it is passed on in every cell
walk-decision : (nodes : List Node) (j d : ℕ) (cells : List ℕ) → walk nodes j cells (Decision d) ≡ d
walk-decision nodes j d [] = refl
walk-decision nodes j d (c ∷ cs) = walk-decision nodes (suc j) d cs

-- 0 is kept as 0 and lost as 0
zero_kept : (masks : List ℕ) (decisions : ℕ) (cells : List ℕ) → kept_by masks decisions cells 0 ≡ 0
zero_kept masks decisions cells = either (allowed masks cells && has_bit decisions 0)
  where
    either : (b : Bool) → ◌≡◌ {A = ℕ} (cond b 0 0) 0
    either true = refl
    either false = refl

-- a link that may stand at level m and has no record there may stand one level on
fits_on : (k : ℕ) (nodes : List Node) (Live : ℕ → Type 0) (m : ℕ) (l : Link) → Fit k nodes Live m l → stands_at nodes m l ≡ false → Fit k nodes Live (suc m) l
fits_on k nodes Live m (Decision d) fit e = fit
fits_on k nodes Live m (Record r) fit e =
    let h = fit.1 in
    (fit.0, ⊎_elim (λ (a : m < (node nodes r).level). a) (λ (b : (node nodes r).level ≤ m). absurd (both_ways (stands_at nodes m (Record r)) e (eq-eqb (node nodes r).level m (omega arith)))) (cases_lt m (node nodes r).level))

-- and it is passed on in every cell
next_on : (k : ℕ) (nodes : List Node) (Live : ℕ → Type 0) (m : ℕ) (l : Link) → Fit k nodes Live (suc m) l → (c : ℕ) → next nodes m l c ≡ l
next_on k nodes Live m l fit c = passed l fit (view nodes m l)
  where
    passed : (l : Link) → Fit k nodes Live (suc m) l → View nodes m l → next nodes m l c ≡ l
    passed l f (flat u z) = u c
    passed l f (at {r} e) = let h = f.1 in absurd (omega arith)

-- ---- one cell
-- where the bit of a cell is set the link leads on, else to not applicable
abbrev pub child_of : List Node → ℕ → ℕ → Link → ℕ → Link
child_of nodes mask j l c = cond (has_bit mask c) (next nodes j l c) (Decision 0)

-- what is kept in a cell is what is kept of the link in that cell
cell_kept : (nodes : List Node) (j m : ℕ) (ms : List ℕ) (decisions : ℕ) (l : Link) (c : ℕ) (cs : List ℕ)
    → kept_by ms decisions cs (walk nodes (suc j) cs (child_of nodes m j l c)) ≡ kept_by (m ∷ ms) decisions (c ∷ cs) (walk nodes (suc j) cs (next nodes j l c))
cell_kept nodes j m ms decisions l c cs = either (has_bit m c)
  where
    either : (b : Bool) → kept_by ms decisions cs (walk nodes (suc j) cs (cond b (next nodes j l c) (Decision 0)))
        ≡ cond ((b && allowed ms cs) && has_bit decisions (walk nodes (suc j) cs (next nodes j l c))) (walk nodes (suc j) cs (next nodes j l c)) 0
    either true = refl
    either false = ap (kept_by ms decisions cs) (walk-decision nodes (suc j) 0 cs) ∙ zero_kept ms decisions cs

-- the projected page of a link is made of what is kept of its walks
by_walks : (masks : List ℕ) (decisions : ℕ) (nodes : List Node) (j : ℕ) (ns : List ℕ) (l : Link)
    → projected masks decisions ns (page nodes j ns l) ≡ paged ns (λ cells. kept_by masks decisions cells (walk nodes j cells l))
by_walks masks decisions nodes j ns l =
    paged-same ns (λ cells. kept_by masks decisions cells (get_or (page nodes j ns l) (number ns cells) 0)) (λ cells. kept_by masks decisions cells (walk nodes j cells l))
    (λ cells h. ap (kept_by masks decisions cells) (page-at nodes j ns l cells h))

-- so it goes cell by cell
cell_by_cell : (m : ℕ) (ms : List ℕ) (decisions : ℕ) (nodes : List Node) (j n : ℕ) (ns : List ℕ) (l : Link)
    → projected (m ∷ ms) decisions (n ∷ ns) (page nodes j (n ∷ ns) l) ≡ runs n (λ c. projected ms decisions ns (page nodes (suc j) ns (child_of nodes m j l c)))
cell_by_cell m ms decisions nodes j n ns l =
    by_walks (m ∷ ms) decisions nodes j (n ∷ ns) l
    ∙ runs_same n (λ c. paged ns (λ cs. kept_by (m ∷ ms) decisions (c ∷ cs) (walk nodes (suc j) cs (next nodes j l c)))) (λ c. projected ms decisions ns (page nodes (suc j) ns (child_of nodes m j l c)))
    (λ c i.
    sym
    (by_walks ms decisions nodes (suc j) ns (child_of nodes m j l c)
    ∙ paged-same ns (λ cs. kept_by ms decisions cs (walk nodes (suc j) cs (child_of nodes m j l c))) (λ cs. kept_by (m ∷ ms) decisions (c ∷ cs) (walk nodes (suc j) cs (next nodes j l c)))
    (λ cs h. cell_kept nodes j m ms decisions l c cs)))

-- ---- the places
module _ (masks : List ℕ) (decisions : ℕ) where
  -- live records stay as memory grows, so a link fits and denotes what it did
  pub projections_keep : (k : ℕ) (shape : List ℕ) → KeepWhileMemoryGrows (projection_stands masks) (projection_says masks decisions) k shape
  projections_keep k shape nodes marks nodes' marks' j l sound grown st = (
    record {
      as_many_masks_as_attributes = st.as_many_masks_as_attributes;
      zero_is_a_code = st.zero_is_a_code;
      link_fits = fit_frame k shape nodes nodes' (Marked marks) (Marked marks') grown.live_records_stay grown.live_stays_live j l st.link_fits;
    },
    ap (projected (drop j masks) decisions (drop j shape)) (page_frame k shape nodes (Marked marks) sound nodes' grown.live_records_stay j (drop j shape) refl l st.link_fits),
  )

  -- a page by cells is as long as the grid
  pub projections_fill : (k : ℕ) (shape : List ℕ) → FillTheGrid (projection_stands masks) (projection_says masks decisions) k shape
  projections_fill k shape nodes marks j l st = length-paged (drop j shape) (λ cells. kept_by (drop j masks) decisions cells (get_or (page nodes j (drop j shape) l) (number (drop j shape) cells) 0))

  module _ (k : ℕ) (shape : List ℕ) (nodes : List Node) (marks : List ℕ) where
    -- what a link says at a level of the shape, cell by cell
    says_cells : (j : ℕ) (l : Link) → length masks ≡ length shape → j < length shape
        → projection_says masks decisions shape nodes j l ≡ runs (get_or shape j 0) (λ c. projection_says masks decisions shape nodes (suc j) (child_of nodes (get_or masks j 0) j l c))
    says_cells j l many low =
        ap (λ ms. projected ms decisions (drop j shape) (page nodes j (drop j shape) l)) (drop-cons masks j 0 (omega arith))
        ∙ ap (λ ns. projected (get_or masks j 0 ∷ drop (suc j) masks) decisions ns (page nodes j ns l)) (drop-cons shape j 0 low)
        ∙ cell_by_cell (get_or masks j 0) (drop (suc j) masks) decisions nodes j (get_or shape j 0) (drop (suc j) shape) l

    -- the link in a cell, which may stand one level on
    pub projections_lead : (j : ℕ) (l : Link) (c : ℕ) (q : Link) → q ≡ child_of nodes (get_or masks j 0) j l c → LeadsTo (projection_stands masks) (projection_says masks decisions) k shape nodes marks j l c q
    projections_lead j l c q e sound st low small =
        let many = st.as_many_masks_as_attributes in (
          record {
            as_many_masks_as_attributes = many;
            zero_is_a_code = st.zero_is_a_code;
            link_fits = subst (Fit k nodes (Marked marks) (suc j)) (sym e) (either (has_bit (get_or masks j 0) c));
          },
          ap (projection_says masks decisions shape nodes (suc j)) e
              ∙ sym
              (ap (λ w. chunk (grid (drop (suc j) shape)) w c) (says_cells j l many low)
              ∙ chunk-runs (get_or shape j 0) (grid (drop (suc j) shape)) (λ c. projection_says masks decisions shape nodes (suc j) (child_of nodes (get_or masks j 0) j l c))
              (λ c. length-paged (drop (suc j) shape) (λ cells. kept_by (drop (suc j) masks) decisions cells (get_or (page nodes (suc j) (drop (suc j) shape) (child_of nodes (get_or masks j 0) j l c)) (number (drop (suc j) shape) cells) 0))) c small),
        )
      where
        either : (b : Bool) → Fit k nodes (Marked marks) (suc j) (cond b (next nodes j l c) (Decision 0))
        either true = next_fit k shape nodes (Marked marks) sound j (get_or shape j 0) refl l st.link_fits c small
        either false = st.zero_is_a_code

    -- not applicable stays so
    pub projections_settle_nothing : (j : ℕ) (l : Link) → l ≡ Decision 0 → SettledBy (projection_stands masks) (projection_says masks decisions) k shape nodes marks j l l
    projections_settle_nothing j l e sound st = (
      st.link_fits,
      subst (λ x. page nodes j (drop j shape) x ≡ projection_says masks decisions shape nodes j x) (sym e)
          (page_walks nodes j (drop j shape) (Decision 0)
          ∙ sym
          (by_walks (drop j masks) decisions nodes j (drop j shape) (Decision 0)
          ∙ paged-same (drop j shape) (λ cells. kept_by (drop j masks) decisions cells (walk nodes j cells (Decision 0))) (λ cells. walk nodes j cells (Decision 0))
          (λ cells h. ap (kept_by (drop j masks) decisions cells) (walk-decision nodes j 0 cells) ∙ zero_kept (drop j masks) decisions cells ∙ sym (walk-decision nodes j 0 cells)))),
    )

    -- a link that is passed on up to level i may stand at each level on the way, level by level
    fits_until : (j i : ℕ) (l : Link) → PassedOn masks shape nodes j i l → Fit k nodes (Marked marks) j l → (n m : ℕ) → m ≡ j + n → m ≤ i → Fit k nodes (Marked marks) m l
    fits_until j i l passed fit zero m e h = let q : j ≡ m = omega arith in subst (λ (x : ℕ). Fit k nodes (Marked marks) x l) q fit
    fits_until j i l passed fit (suc n) m e h =
        let q : suc (j + n) ≡ m = omega arith in
        subst (λ (x : ℕ). Fit k nodes (Marked marks) x l) q
        (fits_on k nodes (Marked marks) (j + n) l (fits_until j i l passed fit n (j + n) refl (omega arith)) (passed.no_record_stands (j + n) (omega arith) (omega arith)))

    -- and says the same in each cell
    pub projections_skip : (j i : ℕ) (l : Link) → i < length shape → PassedOn masks shape nodes j i l → Sound k shape nodes (Marked marks) → projection_stands masks k shape nodes marks j l
        → SaysTheSameUntil (projection_stands masks) (projection_says masks decisions) k shape nodes marks j l i
    projections_skip j i l low passed sound st =
        let many = st.as_many_masks_as_attributes in
        let fit : (m : ℕ) → j ≤ m → m ≤ i → Fit k nodes (Marked marks) m l = λ m a b. until m a b in
        record {
          stands_at_each = λ m a b. record { as_many_masks_as_attributes = many; zero_is_a_code = st.zero_is_a_code; link_fits = fit m a b };
          same_in_each_cell =
              λ m a b.
              says_cells m l many (omega arith)
              ∙ runs_same (get_or shape m 0) (λ c. projection_says masks decisions shape nodes (suc m) (child_of nodes (get_or masks m 0) m l c)) (λ c. projection_says masks decisions shape nodes (suc m) l)
              (λ c h.
              ap (projection_says masks decisions shape nodes (suc m))
              (ap (λ x. cond x (next nodes m l c) (Decision 0)) (passed.no_cell_is_left_out m a b c h) ∙ next_on k nodes (Marked marks) m l (fit (suc m) (omega arith) (omega arith)) c));
        }
      where
        until : (m : ℕ) → j ≤ m → m ≤ i → Fit k nodes (Marked marks) m l
        until m a b = fits_until j i l passed st.link_fits (m - j) m (omega arith) b

    -- one that is passed on to the end is a decision, for its record would stand at some level
    is_decision_lem : (j : ℕ) (l : Link) → PassedOn masks shape nodes j (length shape) l → Sound k shape nodes (Marked marks) → Fit k nodes (Marked marks) j l → l ≡ Decision (decision l)
    is_decision_lem j (Decision d) passed sound fit = refl
    is_decision_lem j (Record r) passed sound fit =
        absurd
        (both_ways (stands_at nodes (node nodes r).level (Record r)) (passed.no_record_stands (node nodes r).level fit.1 (sound.each_is_proper r fit.0).at_an_attribute)
        (eq-eqb (node nodes r).level (node nodes r).level refl))

    -- cells that are left have their bits where none is left out
    cells_have_bits : (ns cells : List ℕ) → Cells ns cells → (i : ℕ) → i < length cells → (get_or cells i 0 < get_or ns i 0) × (i < length ns)
    cells_have_bits [] [] h i l = absurd (omega arith)
    cells_have_bits [] (c ∷ cs) h i l = absurd h
    cells_have_bits (n ∷ ns) [] h i l = absurd h
    cells_have_bits (n ∷ ns) (c ∷ cs) h zero l = (h.0, omega arith)
    cells_have_bits (n ∷ ns) (c ∷ cs) h (suc i) l = let w = cells_have_bits ns cs h.1 i (omega arith) in let v = w.1 in (w.0, omega arith)

    -- so it is settled by the mask of decisions
    pub projections_settle : (j : ℕ) (l : Link) (d : ℕ) → PassedOn masks shape nodes j (length shape) l → d ≡ cond (has_bit decisions (decision l)) (decision l) 0
        → SettledBy (projection_stands masks) (projection_says masks decisions) k shape nodes marks j l (Decision d)
    projections_settle j l d passed e sound st = (
      subst (λ (x : ℕ). x < k) (sym e) (code (has_bit decisions (decision l))),
      page_walks nodes j (drop j shape) (Decision d)
          ∙ sym
          (by_walks (drop j masks) decisions nodes j (drop j shape) l
          ∙ paged-same (drop j shape) (λ cells. kept_by (drop j masks) decisions cells (walk nodes j cells l)) (λ cells. walk nodes j cells (Decision d))
          (λ cells h.
          ap (λ x. kept_by (drop j masks) decisions cells (walk nodes j cells x)) is
          ∙ ap (kept_by (drop j masks) decisions cells) (walk-decision nodes j (decision l) cells)
          ∙ ap (λ x. cond (x && has_bit decisions (decision l)) (decision l) 0) (all_allowed (drop j masks) cells (bits cells h))
          ∙ sym e ∙ sym (walk-decision nodes j d cells))),
    )
      where
        is : l ≡ Decision (decision l)
        is = is_decision_lem j l passed sound st.link_fits

        code : (b : Bool) → cond b (decision l) 0 < k
        code true = subst (Fit k nodes (Marked marks) j) is st.link_fits
        code false = st.zero_is_a_code

        bits : (cells : List ℕ) → Cells (drop j shape) cells → (i : ℕ) → i < length cells → has_bit (get_or (drop j masks) i 0) (get_or cells i 0) ≡ true
        bits cells h i b =
            let w = cells_have_bits (drop j shape) cells h i b in
            ap (λ (m : ℕ). has_bit m (get_or cells i 0)) (get_or-drop j masks i 0)
            ∙ passed.no_cell_is_left_out (j + i) (omega arith) (inside i w.1) (get_or cells i 0) (subst (λ (n : ℕ). get_or cells i 0 < n) (get_or-drop j shape i 0) w.0)
          where
            inside : (i : ℕ) → i < length (drop j shape) → j + i < length shape
            inside i h = let e = length-drop j shape in omega arith
