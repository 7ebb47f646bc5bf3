-- Closed marks are on just what is met, and their number is the size.
use Rattle.std.proofs.Common.{◌≡◌, ℕ, zero, suc, ◌<◌, ◌≤◌, Bool, true, false, cond, ◌||◌, eqb, List, [], ◌∷◌, map, length, get_or, refl, subst, ap₂, ⊎_elim, arith}
use Rattle.std.specs.List.{flat_map, AllByRecursion}
use Rattle.std.proofs.ByRecursion.{All-weaker}
use Rattle.std.proofs.lemmas.Bool.{both_ways, eqb-true, eq-eqb, cases_Bool, cases_lt, or_left, or_right}
use Rattle.std.proofs.lemmas.Bool.Decides.{Decides-eqb}
use Rattle.pages.specs.Parts.{has}
use Rattle.pages.specs.Sizes.{count, size}
use Rattle.pages.proofs.Members.{all_member}
use Rattle.pages.proofs.Counting.{count-within}
use Rattle.diagram.specs.declared.Node.{Node}
use Rattle.diagram.specs.declared.Link.{Link}
use Rattle.diagram.specs.declared.Link.TheVariants.{Decision, Record}
use Rattle.diagram.specs.Diagram.{node, branch, page, met}
use Rattle.vocabulary.specs.Grid.{Filled}
use Rattle.diagram.specs.Sound.{Fit, Sound, Met}
use Rattle.marking.specs.Marks.{Marked, tally}
use Rattle.diagram.specs.Marks.{Closed, CountedByMarks}
use Rattle.diagram.proofs.Changing.{closed_sound, fits_sub}
use Rattle.diagram.proofs.Denoting.{all_met_live, size-met}

-- ---- the marked numbers below n, as a list
picked : ℕ → List ℕ → List ℕ
picked zero marks = []
picked (suc n) marks = cond (eqb (get_or marks n 0) 1) (n ∷ picked n marks) (picked n marks)

-- none of them is n or more
not_picked : (n r : ℕ) (marks : List ℕ) → n ≤ r → has eqb r (picked n marks) ≡ false
unfolding picked
not_picked zero r marks h = refl
not_picked (suc n) r marks h = elim (eqb (get_or marks n 0) 1) as (λ b. has eqb r (cond b (n ∷ picked n marks) (picked n marks)) ≡ false)
    [ true ↦ ap₂ ◌||◌ (differ r n h) (not_picked n r marks (omega arith)) | false ↦ not_picked n r marks (omega arith) ]
  where
    differ : (r n : ℕ) → suc n ≤ r → eqb r n ≡ false
    differ r n h = ⊎_elim (λ t. let e = eqb-true r n t in absurd (omega arith)) (λ t. t) (cases_Bool (eqb r n))

-- they are as many as the tally counts, for each is new
count_picked : (n : ℕ) (marks : List ℕ) → count eqb (picked n marks) ≡ tally n marks
unfolding picked
count_picked zero marks = refl
count_picked (suc n) marks =
    elim (eqb (get_or marks n 0) 1) as (λ b. count eqb (cond b (n ∷ picked n marks) (picked n marks)) ≡ cond b (suc (tally n marks)) (tally n marks))
    [ true ↦ ap₂ (λ b m. cond b m (suc m)) (not_picked n n marks (omega arith)) (count_picked n marks) | false ↦ count_picked n marks ]

-- each is marked
picked_marked : (n : ℕ) (marks : List ℕ) → AllByRecursion (Marked marks) (picked n marks)
unfolding picked
picked_marked zero marks = tt
picked_marked (suc n) marks = go (eqb (get_or marks n 0) 1) refl (picked_marked n marks)
  where
    go : (b : Bool) → eqb (get_or marks n 0) 1 ≡ b → AllByRecursion (Marked marks) (picked n marks) → AllByRecursion (Marked marks) (cond b (n ∷ picked n marks) (picked n marks))
    go true e i = (eqb-true (get_or marks n 0) 1 e, i)
    go false e i = i

-- and each marked number below n is among them
has_picked : (n r : ℕ) (marks : List ℕ) → r < n → Marked marks r → has eqb r (picked n marks) ≡ true
unfolding picked
has_picked zero r marks l m = absurd (omega arith)
has_picked (suc n) r marks l m = go (eqb (get_or marks n 0) 1) refl (λ h. has_picked n r marks h m)
  where
    go : (b : Bool) → eqb (get_or marks n 0) 1 ≡ b → (r < n → has eqb r (picked n marks) ≡ true) → has eqb r (cond b (n ∷ picked n marks) (picked n marks)) ≡ true
    go true e i = ⊎_elim (λ t. or_left (eqb r n) (has eqb r (picked n marks)) t) (λ t. or_right (eqb r n) (has eqb r (picked n marks)) (i (less t))) (cases_Bool (eqb r n))
      where
        less : eqb r n ≡ false → r < n
        less t = ⊎_elim (λ (q : r < n). q) (λ (q : n ≤ r). absurd (both_ways (eqb r n) t (eq-eqb r n (omega arith)))) (cases_lt r n)
    go false e i =
        i (⊎_elim (λ (q : r < n). q)
        (λ (q : n ≤ r).
        let s : r ≡ n = omega arith in
        absurd (both_ways (eqb (get_or marks n 0) 1) e (eq-eqb (get_or marks n 0) 1 (subst (Marked marks) s m)))) (cases_lt r n))

-- ---- a set that has the roots and, with a record, those that it leads to, has all that is met
module _ (k : ℕ) (shape : List ℕ) (nodes : List Node) (Live : ℕ → Type 0) (sound : Sound k shape nodes Live) (Has : ℕ → Type 0)
    (closed : (r : ℕ) → Has r → (c : ℕ) → c < get_or shape (node nodes r).level 0 → (s : ℕ) → branch nodes r c ≡ Record s → Has s) where
  -- live and in it
  abbrev Both : ℕ → Type 0
  Both r = Live r × Has r

  -- the live records in it are sound, and what is met from roots that stand on them is among them
  pub met_in : (roots : List Link) → AllByRecursion (Fit k nodes Live 0) roots → ((i r : ℕ) → i < length roots → get_or roots i (Decision 0) ≡ Record r → Has r) → AllByRecursion Has (flat_map (met nodes 0 shape) roots)
  met_in roots a h =
      All-weaker Both Has (λ r v. v.1) (flat_map (met nodes 0 shape) roots)
      (all_met_live k shape nodes Both
      (closed_sound k shape nodes Live sound Both (λ r v. v.0) (λ r v c i s e live. (live, closed r v.1 c i s e))) roots
      (fits_sub k shape nodes Live sound Both roots a (λ i r b e live. (live, h i r b e))))

-- ---- marking bytes that are closed
module _ (k : ℕ) (shape : List ℕ) (nodes : List Node) (Live : ℕ → Type 0) (sound : Sound k shape nodes Live) (filled : Filled shape) (roots : List Link) (fits : AllByRecursion (Fit k nodes Live 0) roots)
    (marks : List ℕ) (h : Closed shape nodes roots marks) where
  -- what is met is marked, for the marks have the roots and are closed
  met_marked : AllByRecursion (Marked marks) (flat_map (met nodes 0 shape) roots)
  met_marked = met_in k shape nodes Live sound (Marked marks) h.what_they_lead_to_is_marked roots fits h.roots_are_marked

  -- so a record that is met is marked
  pub marked_met : (r : ℕ) → Met nodes shape roots r → Marked marks r
  marked_met r m = all_member eqb (Marked marks) eqb-true r (flat_map (met nodes 0 shape) roots) m met_marked

  -- the size of the roots' pages together is the number of marks
  pub size_marks : size shape (map (page nodes 0 shape) roots) ≡ tally (length nodes) marks
  size_marks =
      let ms : List ℕ = flat_map (met nodes 0 shape) roots in
      let e : size shape (map (page nodes 0 shape) roots) ≡ count eqb ms = size-met k shape nodes Live sound filled roots fits in
      let t : count eqb (picked (length nodes) marks) ≡ tally (length nodes) marks = count_picked (length nodes) marks in
      let a : count eqb ms ≤ count eqb (picked (length nodes) marks) = count-within eqb Decides-eqb ms (picked (length nodes) marks) (inside ms met_marked (all_met_live k shape nodes Live sound roots fits)) in
      let b : count eqb (picked (length nodes) marks) ≤ count eqb ms =
      count-within eqb Decides-eqb (picked (length nodes) marks) ms (All-weaker (Marked marks) (λ r. has eqb r ms ≡ true) (λ r m. h.only_what_is_met_is_marked r m) (picked (length nodes) marks) (picked_marked (length nodes) marks))
      in
      omega arith
    where
      inside : (rs : List ℕ) → AllByRecursion (Marked marks) rs → AllByRecursion Live rs → AllByRecursion (λ r. has eqb r (picked (length nodes) marks) ≡ true) rs
      inside [] a b = tt
      inside (r ∷ rs) a b = (has_picked (length nodes) r marks (sound.in_memory r b.0) a.0, inside rs a.1 b.1)

  -- both together
  pub counted_by_marks : CountedByMarks shape nodes roots marks
  counted_by_marks = record { what_is_met_is_marked = marked_met; as_many_as_the_size = size_marks }
