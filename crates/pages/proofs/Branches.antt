-- The computed parts of a page are its branching parts, as they are defined in words.
use Rattle.std.proofs.Common.{◌≡◌, ℕ, suc, ◌+◌, ◌<◌, Bool, true, false, ◌≢◌, List, [], ◌∷◌, ◌++◌, length, get_or, sym, refl, ap, ◌∙◌, subst, ⊎_elim, add-zero, arith}
use Rattle.std.proofs.lemmas.Bool.{both_ways, or_cases, or_left, cases_Bool}
use Rattle.vocabulary.specs.Grid.{grid}
use Rattle.pages.specs.Pages.{runs, chunk, Front, left}
use Rattle.pages.specs.Parts.{Part, same, Branching, differs, only_if, parts, has, PartsAreTheBranchingParts}
use Rattle.pages.proofs.Deciding.{decides-same, differs_false, differs_true}
use Rattle.pages.proofs.Members.{has_left, has_right, has_cases, has-runs, from-runs}

-- the parts of a chunk are among those of the page, for the page's are made of them
pub parts-chunk : (j n : ℕ) (ns p : List ℕ) (q : Part) (c : ℕ) → c < n → has same q (parts (suc j) ns (chunk (grid ns) p c)) ≡ true → has same q (parts j (n ∷ ns) p) ≡ true
parts-chunk j n ns p q c l h =
    has_right same q (only_if (differs n (chunk (grid ns) p) (chunk (grid ns) p 0)) (j, p)) (runs n (λ c. parts (suc j) ns (chunk (grid ns) p c)))
    (has-runs same q n (λ c. parts (suc j) ns (chunk (grid ns) p c)) c l h)

-- a page one of whose chunks is not the first one is among its own parts, for then the test for a difference holds
pub parts_here : (j n : ℕ) (ns p : List ℕ) (c : ℕ) → c < n → (chunk (grid ns) p c ≢ chunk (grid ns) p 0) → has same (j, p) (parts j (n ∷ ns) p) ≡ true
parts_here j n ns p c l h =
    has_left same (j, p) (only_if d (j, p)) (runs n (λ c. parts (suc j) ns (chunk (grid ns) p c)))
    (⊎_elim (λ t. ap (λ b. has same (j, p) (only_if {X = Part} b (j, p))) t ∙ or_left (same (j, p) (j, p)) false ((decides-same (j, p) (j, p)).1 refl))
    (λ t. absurd (h (differs_false n (chunk (grid ns) p) (chunk (grid ns) p 0) t c l))) (cases_Bool d))
  where
    d : Bool
    d = differs n (chunk (grid ns) p) (chunk (grid ns) p 0)

-- q branches over the shape that is left at level j: its level is counted from there
abbrev BranchingFrom : ℕ → List ℕ → List ℕ → Part → Type 0
BranchingFrom j ns p q = (i : ℕ) × (q.0 ≡ j + i) × Branching ns p (i, q.1)

-- what is computed branches: it is the page itself, two of whose chunks differ, or a part of a chunk
branching_from-parts : (j : ℕ) (ns p : List ℕ) (q : Part) → has same q (parts j ns p) ≡ true → BranchingFrom j ns p q
branching_from-parts j [] p q h = absurd (both_ways false refl h)
branching_from-parts j (n ∷ ns) p q h =
    ⊎_elim (λ t. top (differs n (chunk (grid ns) p) (chunk (grid ns) p 0)) refl t)
    (λ t.
    let w = from-runs same q n (λ c. parts (suc j) ns (chunk (grid ns) p c)) t in
    deeper w.0 w.1 (branching_from-parts (suc j) ns (chunk (grid ns) p w.0) q w.2))
    (has_cases same q (only_if (differs n (chunk (grid ns) p) (chunk (grid ns) p 0)) (j, p)) (runs n (λ c. parts (suc j) ns (chunk (grid ns) p c))) h)
  where
    top : (b : Bool) → differs n (chunk (grid ns) p) (chunk (grid ns) p 0) ≡ b → has same q (only_if b (j, p)) ≡ true → BranchingFrom j (n ∷ ns) p q
    top false e t = absurd (both_ways false refl t)
    top true e t =
        let w = differs_true n (chunk (grid ns) p) (chunk (grid ns) p 0) e in
        let l = w.1 in
        let s : q ≡ (j, p) = ⊎_elim (λ i. (decides-same q (j, p)).0 i) (λ i. absurd (both_ways false refl i)) (or_cases (same q (j, p)) false t) in (
          0,
          ap (λ (z : Part). z.0) s ∙ sym (add-zero j),
          record {
            cells = [];
            cells_of_first_attributes = tt;
            level_is_their_number = refl;
            says_what_is_left = ap (λ (z : Part). z.1) s;
            one = w.0;
            other = 0;
            one_is_a_cell = w.1;
            other_is_a_cell = omega arith;
            leave_something_different = w.2;
          },
        )

    deeper : (c : ℕ) → c < n → BranchingFrom (suc j) ns (chunk (grid ns) p c) q → BranchingFrom j (n ∷ ns) p q
    deeper c l t =
        let e = t.1 in
        let b = t.2 in (
          suc t.0,
          omega arith,
          record {
            cells = c ∷ b.cells;
            cells_of_first_attributes = (l, b.cells_of_first_attributes);
            level_is_their_number = ap suc b.level_is_their_number;
            says_what_is_left = b.says_what_is_left;
            one = b.one;
            other = b.other;
            one_is_a_cell = b.one_is_a_cell;
            other_is_a_cell = b.other_is_a_cell;
            leave_something_different = b.leave_something_different;
          },
        )

-- what branches is computed, by induction on the cells that are fixed
found : (cells : List ℕ) (j : ℕ) (ns p : List ℕ) (q : Part) (c d : ℕ) → Front ns cells → q.0 ≡ j + length cells → q.1 ≡ left ns p cells
    → c < get_or ns (length cells) 0 → d < get_or ns (length cells) 0 → (left ns p (cells ++ c ∷ []) ≢ left ns p (cells ++ d ∷ [])) → has same q (parts j ns p) ≡ true
found [] j [] p q c d f e s u v a = absurd (omega arith)
found [] j (n ∷ ns) p q c d f e s u v a =
    let t : q ≡ (j, p) = λ i. ((e ∙ add-zero j) i, s i) in
    subst (λ z. has same z (parts j (n ∷ ns) p) ≡ true) (sym t)
    (⊎_elim
    (λ (b : differs n (chunk (grid ns) p) (chunk (grid ns) p 0) ≡ true).
    let w = differs_true n (chunk (grid ns) p) (chunk (grid ns) p 0) b in
    parts_here j n ns p w.0 w.1 w.2)
    (λ b.
    absurd (a (differs_false n (chunk (grid ns) p) (chunk (grid ns) p 0) b c u ∙ sym (differs_false n (chunk (grid ns) p) (chunk (grid ns) p 0) b d v))))
    (cases_Bool (differs n (chunk (grid ns) p) (chunk (grid ns) p 0))))
found (x ∷ cells) j [] p q c d f e s u v a = absurd f
found (x ∷ cells) j (n ∷ ns) p q c d f e s u v a =
    parts-chunk j n ns p q x f.0 (found cells (suc j) ns (chunk (grid ns) p x) q c d f.1 (omega arith) s u v a)

-- both together, from level 0
pub parts_are_branching : PartsAreTheBranchingParts
parts_are_branching shape p q =
    record {
      what_is_computed_branches =
          λ h.
          let t = branching_from-parts 0 shape p q h in
          let e : ◌≡◌ {A = Part} (t.0, q.1) q = λ i. (zeroed q.0 t.0 t.1 i, q.1) in
          subst (Branching shape p) e t.2;
      what_branches_is_computed =
          λ b.
          found b.cells 0 shape p q b.one b.other b.cells_of_first_attributes (omega (arith, b.level_is_their_number)) b.says_what_is_left b.one_is_a_cell b.other_is_a_cell
          b.leave_something_different;
    }
  where
    zeroed : (a i : ℕ) → a ≡ 0 + i → i ≡ a
    zeroed a i h = omega arith
