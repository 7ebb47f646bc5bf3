-- The cell of a number among rising cuts.
use Rattle.std.proofs.Common.{◌≡◌, ℕ, zero, suc, ◌+◌, ◌-◌, ◌<◌, ◌≤◌, true, false, ◌⊎◌, List, [], ◌∷◌, length, get_or, drop, ℤ, Some, None, sym, refl, ap, ◌∙◌, subst, inl, inr, ⊎_elim, add-zero, zero-add, add-one, arith}
use lib.Signed.{lt_z}
use Rattle.std.proofs.lemmas.List.{at_drop_more, at_drop_all}
use Rattle.std.proofs.lemmas.Bool.{both_ways, cases_Bool, cases_order, cond-true, cond-false}
use Rattle.fields.specs.Words.{rises}
use Rattle.fields.proofs.Numbering.{lt_z_trans, not_below-itself, rises-later}
use Rattle.vocabulary.specs.Cells.{ending_at, cell_from, cell_of, cut, LastCutNotAbove, CellIsOfTheLastCutNotAbove, WorkedCells}

-- a cell is not no cell, for they are different variants
not_none : (c : ℕ) → None ≡ Some c → ⊥
not_none c e = let z : ◌≡◌ {A = ℕ} 0 1 = cc in omega arith

-- where no cut is above x there is no cell, by induction over the cuts
pub none_above : (i : ℕ) (zs : List ℤ) (x : ℤ) → ((j : ℕ) → j < length zs → lt_z x (cut zs j) ≡ false) → cell_from i zs x ≡ None
none_above i [] x h = refl
none_above i (z ∷ zs) x h = cond-false (lt_z x z) (ending_at i) (cell_from (suc i) zs x) (h 0 (omega arith)) ∙ none_above (suc i) zs x (λ j l. h (suc j) (omega arith))

-- where cut k is the first above x the cell is the one that ends there, by induction over the cuts
pub first_above : (i : ℕ) (zs : List ℤ) (x : ℤ) (k : ℕ) → k < length zs → lt_z x (cut zs k) ≡ true → ((j : ℕ) → j < k → lt_z x (cut zs j) ≡ false) → cell_from i zs x ≡ ending_at (i + k)
first_above i [] x k l t h = absurd (omega arith)
first_above i (z ∷ zs) x zero l t h = cond-true (lt_z x z) (ending_at i) (cell_from (suc i) zs x) t ∙ ap ending_at (sym (add-zero i))
first_above i (z ∷ zs) x (suc k) l t h =
    let e : suc i + k ≡ i + suc k = omega arith in
    cond-false (lt_z x z) (ending_at i) (cell_from (suc i) zs x) (h 0 (omega arith))
    ∙ first_above (suc i) zs x k (omega arith) t (λ j m. h (suc j) (omega arith))
    ∙ ap ending_at e

-- cut k is the first one above x
pub record FirstAbove (zs : List ℤ) (x : ℤ) (k : ℕ) : Type 0 where
  pub inside : k < length zs
  pub above : lt_z x (cut zs k) ≡ true
  pub none_before : (j : ℕ) → j < k → lt_z x (cut zs j) ≡ false

-- no cut is above x
abbrev pub NoneAbove : List ℤ → ℤ → Type 0
NoneAbove zs x = (j : ℕ) → j < length zs → lt_z x (cut zs j) ≡ false

-- no cut is above x, or one of those is the first, by induction over the cuts
pub first_cut : (zs : List ℤ) (x : ℤ) → NoneAbove zs x ⊎ ((k : ℕ) × FirstAbove zs x k)
first_cut [] x = inl (λ j l. absurd (omega arith))
first_cut (z ∷ zs) x = ⊎_elim here (λ f. ⊎_elim (none f) (later f) (first_cut zs x)) (cases_Bool (lt_z x z))
  where
    before : lt_z x z ≡ false → (n : ℕ) → ((j : ℕ) → j < n → lt_z x (cut zs j) ≡ false) → (j : ℕ) → j < suc n → lt_z x (cut (z ∷ zs) j) ≡ false
    before f n h zero l = f
    before f n h (suc j) l = h j (omega arith)

    here : lt_z x z ≡ true → NoneAbove (z ∷ zs) x ⊎ ((k : ℕ) × FirstAbove (z ∷ zs) x k)
    here t = inr (0, record { inside = omega arith; above = t; none_before = λ j l. absurd (omega arith) })

    none : lt_z x z ≡ false → NoneAbove zs x → NoneAbove (z ∷ zs) x ⊎ ((k : ℕ) × FirstAbove (z ∷ zs) x k)
    none f h = inl (before f (length zs) h)

    later : lt_z x z ≡ false → ((k : ℕ) × FirstAbove zs x k) → NoneAbove (z ∷ zs) x ⊎ ((k : ℕ) × FirstAbove (z ∷ zs) x k)
    later f r = let l = r.1.inside in inr (suc r.0, record { inside = omega arith; above = r.1.above; none_before = before f r.0 r.1.none_before })

module _ (zs : List ℤ) (x : ℤ) (r : rises zs ≡ true) where
  -- above x stay the cuts after one above x, for each is above that one
  later_above : (i j : ℕ) → i ≤ j → j < length zs → lt_z x (cut zs i) ≡ true → lt_z x (cut zs j) ≡ true
  later_above i j h l t =
      ⊎_elim (λ e. subst (λ (k : ℕ). lt_z x (cut zs k) ≡ true) e t)
      (λ o. ⊎_elim (λ m. lt_z_trans x (cut zs i) (cut zs j) t (rises-later zs i j m l r)) (λ m. absurd (omega arith)) o) (cases_order i j)

  -- so those before one that is not above x are not above x
  earlier_not_above : (i j : ℕ) → i ≤ j → j < length zs → lt_z x (cut zs j) ≡ false → lt_z x (cut zs i) ≡ false
  earlier_not_above i j h l f = ⊎_elim (λ t. absurd (both_ways (lt_z x (cut zs j)) f (later_above i j h l t))) (λ e. e) (cases_Bool (lt_z x (cut zs i)))

  -- the cell is the one that ends at the first cut above x
  cell_of_first : (k : ℕ) → FirstAbove zs x k → cell_of zs x ≡ ending_at k
  cell_of_first k f = first_above 0 zs x k f.inside f.above f.none_before ∙ ap ending_at (zero-add k)

  -- the cell before the first cut above x begins with the last cut not above x
  last_of_first : (c : ℕ) → FirstAbove zs x (suc c) → LastCutNotAbove zs x c
  last_of_first c f =
      record {
        ended_by_a_cut = f.inside;
        not_above = f.none_before c (omega arith);
        later_ones_above = λ j l m. later_above (suc c) j l m f.above;
      }

  -- and the other way round, for those before the last cut not above x are not above x
  first_of_last : (c : ℕ) → LastCutNotAbove zs x c → FirstAbove zs x (suc c)
  first_of_last c f =
      let l = f.ended_by_a_cut in
      record {
        inside = l;
        above = f.later_ones_above (suc c) (omega arith) l;
        none_before = λ j m. earlier_not_above j c (omega arith) (omega arith) f.not_above;
      }

  -- a cell that is found begins with the last cut not above x
  pub some_is_last : (c : ℕ) → cell_of zs x ≡ Some c → LastCutNotAbove zs x c
  some_is_last c e = ⊎_elim (λ n. absurd (not_none c (sym (none_above 0 zs x n) ∙ e))) (λ f. go f.0 f.1) (first_cut zs x)
    where
      go : (k : ℕ) → FirstAbove zs x k → LastCutNotAbove zs x c
      go zero f = absurd (not_none c (sym (cell_of_first 0 f) ∙ e))
      go (suc d) f =
          let q : Some d ≡ Some c = sym (cell_of_first (suc d) f) ∙ e in
          let p : d ≡ c = cc in
          subst (LastCutNotAbove zs x) p (last_of_first d f)

  -- no cell is found only below the first cut and from the last one on
  pub none_only : cell_of zs x ≡ None → 1 ≤ length zs → (lt_z x (cut zs 0) ≡ true) ⊎ (lt_z x (cut zs (length zs - 1)) ≡ false)
  none_only e l = ⊎_elim (λ n. inr (n (length zs - 1) (omega arith))) (λ f. go f.0 f.1) (first_cut zs x)
    where
      go : (k : ℕ) → FirstAbove zs x k → (lt_z x (cut zs 0) ≡ true) ⊎ (lt_z x (cut zs (length zs - 1)) ≡ false)
      go zero f = inl f.above
      go (suc d) f = absurd (not_none d (sym e ∙ cell_of_first (suc d) f))

-- the first cut above x decides all of it
pub cell_is_of_the_last_cut : CellIsOfTheLastCutNotAbove
cell_is_of_the_last_cut zs x l r =
    record {
      some_is_the_last_cut_not_above = some_is_last zs x r;
      last_cut_not_above_is_found = λ c f. cell_of_first zs x r (suc c) (first_of_last zs x r c f);
      none_below_the_first = λ t. cell_of_first zs x r 0 (record { inside = l; above = t; none_before = λ j m. absurd (omega arith) });
      none_from_the_last_on = λ f. none_above 0 zs x (λ j m. earlier_not_above zs x r j (length zs - 1) (omega arith) (omega arith) f);
      none_only_there = λ e. none_only zs x r e l;
    }

-- every one of these is a computation
pub worked_cells_lem : WorkedCells
worked_cells_lem =
    record { just_below_a_cut = refl; at_a_cut = refl; at_the_first_cut = refl; just_below_the_last_cut = refl; below_the_first_cut = refl; at_the_last_cut = refl }

-- a cut that is not the last is in the cell that begins with it
pub cell_of_cut : (zs : List ℤ) (c : ℕ) → suc c < length zs → rises zs ≡ true → cell_of zs (cut zs c) ≡ Some c
cell_of_cut zs c l r =
    let x : ℤ = cut zs c in
    let self : lt_z x x ≡ false = ⊎_elim (λ t. absurd (not_below-itself x t)) (λ t. t) (cases_Bool (lt_z x x)) in
    cell_of_first zs x r (suc c)
    (first_of_last zs x r c (record { ended_by_a_cut = l; not_above = self; later_ones_above = λ j h m. rises-later zs c j h m r }))

-- ---- one turn of the loop over cuts
-- the cut is above: the cell ends here
pub above : (zs : List ℤ) (i : ℕ) (x d : ℤ) → i < length zs → lt_z x (get_or zs i d) ≡ true → cell_from i (drop i zs) x ≡ ending_at i
above zs i x d h e = at_drop_more (λ l. cell_from i l x) zs i d h ∙ rw e

-- it is not: look behind it
pub under : (zs : List ℤ) (i : ℕ) (x d : ℤ) → i < length zs → lt_z x (get_or zs i d) ≡ false → cell_from i (drop i zs) x ≡ cell_from (i + 1) (drop (i + 1) zs) x
under zs i x d h e = at_drop_more (λ l. cell_from i l x) zs i d h ∙ rw e (ap (λ (j : ℕ). cell_from j (drop (i + 1) zs) x) (sym (add-one i)))

-- no cut is above
pub past : (zs : List ℤ) (i : ℕ) (x : ℤ) → length zs ≤ i → cell_from i (drop i zs) x ≡ None
past zs i x h = at_drop_all (λ l. cell_from i l x) zs i h

-- the cell that ends at cut i is before i
ending_before : (i c : ℕ) → ending_at i ≡ Some c → c < i
ending_before zero c e = absurd (not_none c e)
ending_before (suc j) c e = let z : j ≡ c = cc in omega arith

-- a cell that is found is ended by a cut
pub cell_ends_within : (i : ℕ) (zs : List ℤ) (x : ℤ) (c : ℕ) → cell_from i zs x ≡ Some c → suc c < i + length zs
cell_ends_within i [] x c e = absurd (not_none c e)
cell_ends_within i (z ∷ zs) x c e =
    ⊎_elim
    (λ (t : lt_z x z ≡ true). let l = ending_before i c (sym (cond-true (lt_z x z) (ending_at i) (cell_from (suc i) zs x) t) ∙ e) in omega arith)
    (λ (t : lt_z x z ≡ false). let l = cell_ends_within (suc i) zs x c (sym (cond-false (lt_z x z) (ending_at i) (cell_from (suc i) zs x) t) ∙ e) in omega arith)
    (cases_Bool (lt_z x z))
