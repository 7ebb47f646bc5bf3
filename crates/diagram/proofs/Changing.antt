-- A sound set of records when node memory changes, when one more record is made, and when only what is met from some roots is kept.
use Rattle.std.proofs.Common.{◌≡◌, ℕ, zero, suc, ◌<◌, ◌≤◌, Bool, true, false, ◌||◌, eqb, ◌⊎◌, List, [], ◌∷◌, ◌++◌, length, get_or, drop, set, sym, refl, ap, ◌∙◌, subst, subst₂, ⊎_elim, arith, length-set}
use Rattle.std.specs.List.{flat_map, AllByRecursion}
use Rattle.std.proofs.lemmas.List.{get_or-set_same}
use Rattle.std.proofs.lemmas.Bool.{both_ways, eqb-true, eq-eqb, or_cases}
use Rattle.pages.specs.Pages.{runs}
use Rattle.pages.specs.Parts.{only_if, has}
use Rattle.pages.proofs.Runs.{drop-step, drop_end}
use Rattle.pages.proofs.Members.{has_left, has_right, has_cases, has-runs, from-runs, all_member}
use Rattle.diagram.specs.declared.Node.{Node}
use Rattle.diagram.specs.declared.Link.{Link}
use Rattle.diagram.specs.declared.Link.TheVariants.{Decision, Record}
use Rattle.diagram.specs.Diagram.{blank, node, link, branch, next, record_at, met}
use Rattle.vocabulary.specs.Grid.{Filled}
use Rattle.diagram.specs.Sound.{Fit, Proper, Alike, Sound, Agree, Met}
use Rattle.diagram.specs.Changed.{StaysIn}
use Rattle.diagram.proofs.Denoting.{View, flat, at, view, next-at, next_fit, all_met_live, page_frame, met_frame, agree_set}
use Rattle.diagram.proofs.Making.{part_frame}

-- ---- no live record, and fewer of them
-- with nothing live there is nothing to show
pub nothing_sound : (k : ℕ) (shape : List ℕ) (nodes : List Node) (Live : ℕ → Type 0) → ((r : ℕ) → Live r → ⊥) → Sound k shape nodes Live
nothing_sound k shape nodes Live none =
    record { in_memory = λ r v. absurd (none r v); each_is_proper = λ r v. absurd (none r v); none_is_there_twice = λ r s u v h. absurd (none r u) }

module _ (k : ℕ) (shape : List ℕ) (nodes : List Node) (Live : ℕ → Type 0) (sound : Sound k shape nodes Live) (Sub : ℕ → Type 0) where
  -- a link whose record is in a smaller set may stand on it
  pub fit_sub : (j : ℕ) (l : Link) → Fit k nodes Live j l → ((s : ℕ) → l ≡ Record s → Live s → Sub s) → Fit k nodes Sub j l
  fit_sub j (Decision d) f h = f
  fit_sub j (Record r) f h = (h r refl f.0, f.1)

  -- and so all links
  pub fits_sub : (roots : List Link) → AllByRecursion (Fit k nodes Live 0) roots → ((i r : ℕ) → i < length roots → get_or roots i (Decision 0) ≡ Record r → Live r → Sub r) → AllByRecursion (Fit k nodes Sub 0) roots
  fits_sub [] a h = tt
  fits_sub (l ∷ ls) a h = (fit_sub 0 l a.0 (λ s e. h 0 s (omega arith) e), fits_sub ls a.1 (λ i r b e. h (suc i) r (omega arith) e))

  -- a smaller set that has, with a record, those that it leads to, is sound
  pub closed_sound : ((r : ℕ) → Sub r → Live r)
      → ((r : ℕ) → Sub r → (c : ℕ) → c < get_or shape (node nodes r).level 0 → (s : ℕ) → branch nodes r c ≡ Record s → Live s → Sub s) → Sound k shape nodes Sub
  closed_sound live closed =
      record {
        in_memory = λ r v. sound.in_memory r (live r v);
        each_is_proper =
            λ r v.
            let o = sound.each_is_proper r (live r v) in
            record {
              at_an_attribute = o.at_an_attribute;
              branches_lead_on = λ c i. fit_sub (suc (node nodes r).level) (branch nodes r c) (o.branches_lead_on c i) (closed r v c i);
              two_branches_differ = o.two_branches_differ;
              others_are_blank = o.others_are_blank;
            };
        none_is_there_twice = λ r s u v. sound.none_is_there_twice r s (live r u) (live s v);
      }

-- ---- what is met from a link holds the records that its records lead to
module _ (k : ℕ) (shape : List ℕ) (nodes : List Node) (Live : ℕ → Type 0) (sound : Sound k shape nodes Live) (filled : Filled shape) where
  -- a record that may stand at a link is met from it: there, or further on where it is passed on
  met_self : (j : ℕ) (ns : List ℕ) → drop j shape ≡ ns → (s : ℕ) → Fit k nodes Live j (Record s) → has eqb s (met nodes j ns (Record s)) ≡ true
  met_self j [] e s f =
      let i = (sound.each_is_proper s f.0).at_an_attribute in
      let u = f.1 in
      let l = drop_end shape j e in
      absurd (omega arith)
  met_self j (n ∷ ns) e s f =
      let t = drop-step shape j n ns e in
      let p : 0 < n = subst (λ (m : ℕ). 0 < m) t.1 (filled j t.0) in
      by (view nodes j (Record s)) p (λ g. met_self (suc j) ns t.2 s g) (next_fit k shape nodes Live sound j n t.1 (Record s) f 0 p)
    where
      rest : List ℕ
      rest = runs n (λ c. met nodes (suc j) ns (next nodes j (Record s) c))

      by' : (l : Link) → l ≡ Record s → View nodes j l → 0 < n → (Fit k nodes Live (suc j) (Record s) → has eqb s (met nodes (suc j) ns (Record s)) ≡ true) → Fit k nodes Live (suc j) (next nodes j (Record s) 0)
          → has eqb s (record_at nodes j (Record s) ++ rest) ≡ true
      by' l q (flat u z) p i g =
          let w : next nodes j (Record s) 0 ≡ Record s = subst (λ l. next nodes j l 0 ≡ l) q (u 0) in
          has_right eqb s (record_at nodes j (Record s)) rest
          (has-runs eqb s n (λ c. met nodes (suc j) ns (next nodes j (Record s) c)) 0 p
          (subst (λ l. has eqb s (met nodes (suc j) ns l) ≡ true) (sym w) (i (subst (Fit k nodes Live (suc j)) w g))))
      by' l q (at {r} v) p i g =
          let w : r ≡ s = cc in
          let v' : (node nodes s).level ≡ j = ap (λ (i : ℕ). (node nodes i).level) (sym w) ∙ v in
          has_left eqb s (record_at nodes j (Record s)) rest
          (ap (λ b. has eqb s (only_if b s)) (eq-eqb (node nodes s).level j v') ∙ ap (λ b. b || false) (eq-eqb s s refl))

      by : View nodes j (Record s) → 0 < n → (Fit k nodes Live (suc j) (Record s) → has eqb s (met nodes (suc j) ns (Record s)) ≡ true) → Fit k nodes Live (suc j) (next nodes j (Record s) 0)
          → has eqb s (record_at nodes j (Record s) ++ rest) ≡ true
      by = by' (Record s) refl

  -- a record that stands at a link is that link
  record_is : (j : ℕ) (l : Link) (r : ℕ) → has eqb r (record_at nodes j l) ≡ true → (l ≡ Record r) × ((node nodes r).level ≡ j)
  record_is j (Decision d) r h = absurd (both_ways false refl h)
  record_is j (Record s) r h = go (eqb (node nodes s).level j) refl h
    where
      go : (b : Bool) → eqb (node nodes s).level j ≡ b → has eqb r (only_if b s) ≡ true → (Record s ≡ Record r) × ((node nodes r).level ≡ j)
      go false e h = absurd (both_ways false refl h)
      go true e h =
          ⊎_elim (λ t. let w : r ≡ s = eqb-true r s t in (ap Record (sym w), ap (λ (i : ℕ). (node nodes i).level) w ∙ eqb-true (node nodes s).level j e))
          (λ t. absurd (both_ways false refl t)) (or_cases (eqb r s) false h)

  -- with a record that is met, those that it leads to are met, one cell further on
  pub met-closed : (j : ℕ) (ns : List ℕ) → drop j shape ≡ ns → (l : Link) → Fit k nodes Live j l → (r : ℕ) → has eqb r (met nodes j ns l) ≡ true
      → (c : ℕ) → c < get_or shape (node nodes r).level 0 → (s : ℕ) → branch nodes r c ≡ Record s → has eqb s (met nodes j ns l) ≡ true
  met-closed j [] e l f r h c i s b = absurd (both_ways false refl h)
  met-closed j (n ∷ ns) e l f r h c i s b =
      let t = drop-step shape j n ns e in
      let F : ℕ → List ℕ = λ c. met nodes (suc j) ns (next nodes j l c) in
      has_right eqb s (record_at nodes j l) (runs n F)
      (⊎_elim
      (λ z.
      let w = record_is j l r z in
      let m : c < n = subst (λ (m : ℕ). c < m) (ap (λ (i : ℕ). get_or shape i 0) w.1 ∙ t.1) i in
      let q : next nodes j l c ≡ Record s = ap (λ l. next nodes j l c) w.0 ∙ next-at nodes j r w.1 c ∙ b in
      has-runs eqb s n F c m
      (subst (λ l. has eqb s (met nodes (suc j) ns l) ≡ true) (sym q)
      (met_self (suc j) ns t.2 s (subst (Fit k nodes Live (suc j)) q (next_fit k shape nodes Live sound j n t.1 l f c m)))))
      (λ z.
      let w = from-runs eqb r n F z in
      has-runs eqb s n F w.0 w.1
      (met-closed (suc j) ns t.2 (next nodes j l w.0) (next_fit k shape nodes Live sound j n t.1 l f w.0 w.1) r w.2 c i s b))
      (has_cases eqb r (record_at nodes j l) (runs n F) h))

  -- the same from several roots
  all_closed : (roots : List Link) → AllByRecursion (Fit k nodes Live 0) roots → (r : ℕ) → Met nodes shape roots r → (c : ℕ) → c < get_or shape (node nodes r).level 0 → (s : ℕ) → branch nodes r c ≡ Record s
      → Met nodes shape roots s
  all_closed [] a r h c i s b = absurd (both_ways false refl h)
  all_closed (l ∷ ls) a r h c i s b =
      ⊎_elim (λ t. has_left eqb s (met nodes 0 shape l) (flat_map (met nodes 0 shape) ls) (met-closed 0 shape refl l a.0 r t c i s b))
      (λ t. has_right eqb s (met nodes 0 shape l) (flat_map (met nodes 0 shape) ls) (all_closed ls a.1 r t c i s b))
      (has_cases eqb r (met nodes 0 shape l) (flat_map (met nodes 0 shape) ls) h)

  -- what is met is live, for links lead to live records
  pub met_is_live : (roots : List Link) → AllByRecursion (Fit k nodes Live 0) roots → (r : ℕ) → Met nodes shape roots r → Live r
  met_is_live roots a r h = all_member eqb Live eqb-true r (flat_map (met nodes 0 shape) roots) h (all_met_live k shape nodes Live sound roots a)

  -- the record of a root is met from it
  root_met : (roots : List Link) → AllByRecursion (Fit k nodes Live 0) roots → (i r : ℕ) → i < length roots → get_or roots i (Decision 0) ≡ Record r → Met nodes shape roots r
  root_met [] a i r h e = absurd (omega arith)
  root_met (l ∷ ls) a zero r h e =
      has_left eqb r (met nodes 0 shape l) (flat_map (met nodes 0 shape) ls)
      (subst (λ l. has eqb r (met nodes 0 shape l) ≡ true) (sym e) (met_self 0 shape refl r (subst (Fit k nodes Live 0) e a.0)))
  root_met (l ∷ ls) a (suc i) r h e = has_right eqb r (met nodes 0 shape l) (flat_map (met nodes 0 shape) ls) (root_met ls a.1 i r (omega arith) e)

  -- what is met from roots is closed, so it is sound, and nothing is owed when another root goes
  pub met_sound : (roots : List Link) → AllByRecursion (Fit k nodes Live 0) roots → Sound k shape nodes (Met nodes shape roots)
  met_sound roots a =
      closed_sound k shape nodes Live sound (Met nodes shape roots) (met_is_live roots a) (λ r h c i s e _. all_closed roots a r h c i s e)

  -- the roots may stand on what is met from them
  pub met_fits : (roots : List Link) → AllByRecursion (Fit k nodes Live 0) roots → AllByRecursion (Fit k nodes (Met nodes shape roots) 0) roots
  met_fits roots a = fits_sub k shape nodes Live sound (Met nodes shape roots) roots a (λ i r h e _. root_met roots a i r h e)

-- ---- other node memory, and more live records
module _ (k : ℕ) (shape : List ℕ) (nodes nodes' : List Node) (Live Live' : ℕ → Type 0) (agree : Agree Live nodes nodes') (more : (r : ℕ) → Live r → Live' r) where
  -- a link of live records may stand where it stood, for they have their levels
  pub fit_frame : (j : ℕ) (l : Link) → Fit k nodes Live j l → Fit k nodes' Live' j l
  fit_frame j (Decision d) f = f
  fit_frame j (Record r) f = (more r f.0, subst (λ (x : Node). j ≤ x.level) (sym (agree r f.0)) f.1)

  -- so a proper record stays proper
  pub proper_frame : (x : Node) → Proper k shape nodes Live x → Proper k shape nodes' Live' x
  proper_frame x o =
      record { at_an_attribute = o.at_an_attribute; branches_lead_on = λ c i. fit_frame (suc x.level) (link x c) (o.branches_lead_on c i); two_branches_differ = o.two_branches_differ; others_are_blank = o.others_are_blank }

-- ---- another memory that has the same in the live records
module _ (k : ℕ) (shape : List ℕ) (nodes nodes' : List Node) (Live : ℕ → Type 0) (sound : Sound k shape nodes Live) (agree : Agree Live nodes nodes') where
  -- each live record is what it was, and leads where it led
  pub sound_frame : length nodes ≤ length nodes' → Sound k shape nodes' Live
  sound_frame long =
      record {
        in_memory = λ r v. let h = sound.in_memory r v in omega arith;
        each_is_proper = λ r v. subst (Proper k shape nodes' Live) (sym (agree r v)) (proper_frame k shape nodes nodes' Live Live agree (λ r v. v) (node nodes r) (sound.each_is_proper r v));
        none_is_there_twice = λ r s u v h. sound.none_is_there_twice r s u v (subst₂ Alike (agree r u) (agree s v) h);
      }

  -- so the set stays, and its links with their pages
  pub stays : length nodes ≤ length nodes' → StaysIn nodes' k shape nodes Live
  stays long =
      record {
        still_sound = sound_frame long;
        links_still_fit = fit_frame k shape nodes nodes' Live Live agree (λ r v. v);
        pages_are_kept = λ j. page_frame k shape nodes Live sound nodes' agree j (drop j shape) refl;
        same_records_are_met = λ j. met_frame k shape nodes Live sound nodes' agree j (drop j shape) refl;
        parts_are_kept = part_frame k shape nodes nodes' Live Live sound agree;
      }

-- ---- one more record: x, which is proper and like no live one, goes into a record that is not live
module _ (k : ℕ) (shape : List ℕ) (nodes : List Node) (Live Live' : ℕ → Type 0) (sound : Sound k shape nodes Live) (r : ℕ) (x : Node) where
  -- the new record leads to live ones and is like none, and the others are as they were
  pub one_more : r < length nodes → (Live r → ⊥) → Proper k shape nodes Live x → ((s : ℕ) → Live s → Alike (node nodes s) x → ⊥)
      → ((s : ℕ) → Live s → Live' s) → ((s : ℕ) → Live' s → Live s ⊎ (s ≡ r)) → Sound k shape (set nodes r x) Live'
  one_more l free o fresh more least =
      record {
        in_memory = λ s v. subst (λ (m : ℕ). s < m) (sym (length-set nodes r x)) (⊎_elim (λ u. sound.in_memory s u) (λ e. subst (λ (t : ℕ). t < length nodes) (sym e) l) (least s v));
        each_is_proper =
            λ s v.
            ⊎_elim (λ u. subst P (sym (agree s u)) (proper_frame k shape nodes nodes' Live Live' agree more (node nodes s) (sound.each_is_proper s u)))
            (λ e. subst P (sym (ap (node nodes') e ∙ new)) (proper_frame k shape nodes nodes' Live Live' agree more x o)) (least s v);
        none_is_there_twice =
            λ s t v w h.
            ⊎_elim
            (λ u.
            ⊎_elim (λ u'. sound.none_is_there_twice s t u u' (subst₂ Alike (agree s u) (agree t u') h))
            (λ e. absurd (fresh s u (subst₂ Alike (agree s u) (ap (node nodes') e ∙ new) h))) (least t w))
            (λ e.
            ⊎_elim (λ u'. absurd (fresh t u' (turned x (node nodes t) (subst₂ Alike (ap (node nodes') e ∙ new) (agree t u') h)))) (λ e'. e ∙ sym e') (least t w))
            (least s v);
      }
    where
      nodes' : List Node
      nodes' = set nodes r x

      P : Node → Type 0
      P = Proper k shape (set nodes r x) Live'

      agree : Agree Live nodes (set nodes r x)
      agree = agree_set k shape nodes Live sound r x free

      new : node (set nodes r x) r ≡ x
      new = get_or-set_same nodes r x blank l

      turned : (y z : Node) → Alike y z → Alike z y
      turned y z h = (sym h.0, λ c i. sym (h.1 c i))
