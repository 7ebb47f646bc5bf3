-- One sweep closes the marks of one level more, for the branches of a sound record lead to later levels.
use Rattle.std.proofs.Common.{◌≡◌, ℕ, suc, ◌+◌, ◌<◌, ◌≤◌, Bool, true, false, cond, ◌&&◌, eqb, ◌≢◌, ◌⊎◌, List, length, get_or, replicate, sym, refl, ap, ◌∙◌, subst, inl, inr, ⊎_elim, add-one, arith}
use Rattle.std.specs.List.{AllByRecursion}
use Rattle.std.proofs.ByRecursion.{All-get_or}
use Rattle.std.proofs.lemmas.List.{get_or_past, get_or-replicate, length-replicate}
use Rattle.std.proofs.lemmas.Bool.{cases_eq, cases_lt, both_ways, eqb-true, eq-eqb}
use Rattle.marking.specs.Marks.{Marked}
use Rattle.diagram.specs.declared.Node.{Node}
use Rattle.diagram.specs.declared.Link.{Link}
use Rattle.diagram.specs.declared.Link.TheVariants.{Decision, Record}
use Rattle.diagram.specs.Diagram.{node, link}
use Rattle.diagram.specs.Sound.{Fit, Met}
use Rattle.diagram.specs.Marks.{Closed}
use Rattle.reaching.specs.Roots.{marked_by_all, first_links, swept_one, SoundRoots}
use Rattle.reaching.specs.Swept.{LeadsToMarked, ClosedBelow, StaysMarked}
use Rattle.reaching.proofs.Linked.{marked_below, length_marked, marked_stays, Among, marked_new, marks_each, first_length, first_at}

-- marks of links keep the marks before
pub links_keep : (ls : List Link) (marks : List ℕ) → StaysMarked marks (marked_by_all ls marks)
links_keep ls marks = record { as_many_bytes = length_marked ls marks; marked_stays_marked = marked_stays ls marks }

pub keeps_itself : (marks : List ℕ) → StaysMarked marks marks
keeps_itself marks = record { as_many_bytes = refl; marked_stays_marked = λ r m. m }

-- so does one record of a sweep
pub one_keeps : (j n : ℕ) (x : Node) (r : ℕ) (marks : List ℕ) → StaysMarked marks (swept_one j n x r marks)
one_keeps j n x r marks =
    elim (eqb x.level j && eqb (get_or marks r 0) 1) as (λ b. StaysMarked marks (cond b (marked_by_all (first_links x n) marks) marks))
    [ true ↦ links_keep (first_links x n) marks | false ↦ keeps_itself marks ]

pub keeps_on : (a b c : List ℕ) → StaysMarked a b → StaysMarked b c → StaysMarked a c
keeps_on a b c p q = record {
  as_many_bytes = q.as_many_bytes ∙ p.as_many_bytes;
  marked_stays_marked = λ r m. q.marked_stays_marked r (p.marked_stays_marked r m);
}

-- a link that may stand at a level, if it is a record's
record_fits : (k : ℕ) (nodes : List Node) (Live : ℕ → Type 0) (j : ℕ) (l : Link) (s : ℕ) → l ≡ Record s → Fit k nodes Live j l → Live s × (j ≤ (node nodes s).level)
record_fits k nodes Live j l s e f = subst (Fit k nodes Live j) e f

-- how far a sweep of level j has come: the marked records of this level before i lead to marked records
pub record SweptTo (shape : List ℕ) (nodes : List Node) (roots : List Link) (j : ℕ) (marks : List ℕ) (i : ℕ) : Type 0 where
  pub closed_below : ClosedBelow shape nodes roots marks j
  pub closed_here : (r : ℕ) → r < i → Marked marks r → (node nodes r).level ≡ j → LeadsToMarked shape nodes marks r

pub sweep_begins : (shape : List ℕ) (nodes : List Node) (roots : List Link) (j : ℕ) (marks : List ℕ) → ClosedBelow shape nodes roots marks j → SweptTo shape nodes roots j marks 0
sweep_begins shape nodes roots j marks h = record { closed_below = h; closed_here = λ r l. absurd (omega arith) }

module _ (k : ℕ) (shape : List ℕ) (nodes : List Node) (roots : List Link) (sound : SoundRoots k shape nodes roots) (j : ℕ) (marks : List ℕ) (many : length marks ≡ length nodes) (i : ℕ) (h : SweptTo shape nodes roots j marks i) where
  -- a record of another level, or one that is not marked, is passed over
  pub passed_over : ((node nodes i).level ≡ j → Marked marks i → ⊥) → SweptTo shape nodes roots j marks (suc i)
  passed_over other = record {
    closed_below = h.closed_below;
    closed_here = λ r l m e. ⊎_elim (λ (q : r ≡ i). absurd (other (ap (λ (n : ℕ). (node nodes n).level) (sym q) ∙ e) (subst (Marked marks) q m))) (λ (d : r ≢ i). h.closed_here r (omega arith) m e) (cases_eq r i);
  }

  module _ (here : (node nodes i).level ≡ j) (live : Marked marks i) where
    abbrev n : ℕ
    n = get_or shape j 0

    abbrev after : List ℕ
    after = marked_by_all (first_links (node nodes i) n) marks

    is_met : Met nodes shape roots i
    is_met = h.closed_below.only_what_is_met_is_marked i live

    -- what it leads to is met, and stands at a later level
    leads : (s : ℕ) → Among s (first_links (node nodes i) n) → Met nodes shape roots s × (suc j ≤ (node nodes s).level)
    leads s a =
        let inside : a.0 < n = subst (λ (m : ℕ). a.0 < m) (first_length (node nodes i) n) a.1 in
        let e : link (node nodes i) a.0 ≡ Record s = sym (first_at (node nodes i) n a.0 inside) ∙ a.2 in
        let f = (sound.what_they_reach_is_sound.each_is_proper i is_met).branches_lead_on a.0 (subst (λ (m : ℕ). a.0 < get_or shape m 0) (sym here) inside) in
        let g = record_fits k nodes (Met nodes shape roots) (suc (node nodes i).level) (link (node nodes i) a.0) s e f in
        (g.0, subst (λ (m : ℕ). suc m ≤ (node nodes s).level) here g.1)

    keeps : (r : ℕ) → LeadsToMarked shape nodes marks r → LeadsToMarked shape nodes after r
    keeps r l c b s e = marked_stays (first_links (node nodes i) n) marks s (l c b s e)

    -- what is marked now was marked before, or stands at a later level
    before : (r : ℕ) → Marked after r → Marked marks r ⊎ (Met nodes shape roots r × (suc j ≤ (node nodes r).level))
    before r m = ⊎_elim (λ o. inl o) (λ a. inr (leads r a)) (marked_new (first_links (node nodes i) n) marks r m)

    -- its own branches are marked
    own : LeadsToMarked shape nodes after i
    own c b s e =
        let inside : c < n = subst (λ (m : ℕ). c < get_or shape m 0) here b in
        let at = subst (λ (m : ℕ). c < m) (sym (first_length (node nodes i) n)) inside in
        let a : get_or (first_links (node nodes i) n) c (Decision 0) ≡ Record s = first_at (node nodes i) n c inside ∙ e in
        let stored = sound.what_they_reach_is_sound.in_memory s (leads s (c, at, a)).0 in
        marks_each (first_links (node nodes i) n) marks s c at a (subst (λ (m : ℕ). s < m) (sym many) stored)

    pub taken_in : SweptTo shape nodes roots j after (suc i)
    taken_in = record {
      closed_below = record {
        roots_are_marked = λ q r b e. marked_stays (first_links (node nodes i) n) marks r (h.closed_below.roots_are_marked q r b e);
        what_lower_records_lead_to_is_marked = λ r m l. ⊎_elim (λ o. keeps r (h.closed_below.what_lower_records_lead_to_is_marked r o l)) (λ p. let far = p.1 in absurd (omega arith)) (before r m);
        only_what_is_met_is_marked = λ r m. ⊎_elim (λ o. h.closed_below.only_what_is_met_is_marked r o) (λ p. p.0) (before r m);
      };
      closed_here = λ r l m e.
          ⊎_elim (λ (q : r ≡ i). subst (LeadsToMarked shape nodes after) (sym q) own)
          (λ (d : r ≢ i). ⊎_elim (λ o. keeps r (h.closed_here r (omega arith) o e)) (λ p. let far = p.1 in absurd (omega arith)) (before r m))
          (cases_eq r i);
    }

  -- one record more
  pub swept_more : (n : ℕ) → n ≡ get_or shape j 0 → SweptTo shape nodes roots j (swept_one j n (node nodes i) i marks) (i + 1)
  swept_more n e =
      subst (λ (m : ℕ). SweptTo shape nodes roots j (swept_one j m (node nodes i) i marks) (i + 1)) (sym e)
      (subst (SweptTo shape nodes roots j (swept_one j (get_or shape j 0) (node nodes i) i marks)) (sym (add-one i))
      (go (eqb (node nodes i).level j) (eqb (get_or marks i 0) 1) refl refl))
    where
      go : (a b : Bool) → eqb (node nodes i).level j ≡ a → eqb (get_or marks i 0) 1 ≡ b
          → SweptTo shape nodes roots j (cond (a && b) (marked_by_all (first_links (node nodes i) (get_or shape j 0)) marks) marks) (suc i)
      go true true p q = taken_in (eqb-true _ _ p) (eqb-true _ _ q)
      go true false p q = passed_over (λ e m. both_ways _ q (eq-eqb _ _ m))
      go false b p q = passed_over (λ e m. both_ways _ p (eq-eqb _ _ e))

-- past the last record the level is closed
pub sweep_ends : (shape : List ℕ) (nodes : List Node) (roots : List Link) (j : ℕ) (marks : List ℕ) (i : ℕ) → length marks ≤ i → SweptTo shape nodes roots j marks i → ClosedBelow shape nodes roots marks (suc j)
sweep_ends shape nodes roots j marks i past h = record {
  roots_are_marked = h.closed_below.roots_are_marked;
  what_lower_records_lead_to_is_marked = λ r m l.
      ⊎_elim (λ (e : (node nodes r).level ≡ j). let b = marked_below marks r m in h.closed_here r (omega arith) m e)
      (λ (d : (node nodes r).level ≢ j). h.closed_below.what_lower_records_lead_to_is_marked r m (omega arith))
      (cases_eq (node nodes r).level j);
  only_what_is_met_is_marked = h.closed_below.only_what_is_met_is_marked;
}

-- past the last level the marks are closed, for every record met stands at a level of the shape
pub all_closed : (k : ℕ) (shape : List ℕ) (nodes : List Node) (roots : List Link) → SoundRoots k shape nodes roots → (marks : List ℕ) (j : ℕ) → length shape ≤ j → ClosedBelow shape nodes roots marks j → Closed shape nodes roots marks
all_closed k shape nodes roots sound marks j past h = record {
  roots_are_marked = h.roots_are_marked;
  what_they_lead_to_is_marked = λ r m. let low = (sound.what_they_reach_is_sound.each_is_proper r (h.only_what_is_met_is_marked r m)).at_an_attribute in h.what_lower_records_lead_to_is_marked r m (omega arith);
  only_what_is_met_is_marked = h.only_what_is_met_is_marked;
}

-- with no mark there is none
unmarked : (many r : ℕ) → Marked (replicate many 0) r → ⊥
unmarked many r m = let one : ◌≡◌ {A = ℕ} 0 1 = sym zero_there ∙ m in omega arith
  where
    zero_there : ◌≡◌ {A = ℕ} (get_or (replicate many 0) r 0) 0
    zero_there =
        ⊎_elim (λ (l : r < many). get_or-replicate many r 0 0 l)
        (λ (l : many ≤ r). get_or_past (replicate many 0) r 0 (subst (λ (k : ℕ). k ≤ r) (sym (length-replicate many 0)) l))
        (cases_lt r many)

-- the root of a list that fits, if it is a record's
root_fits : (k : ℕ) (nodes : List Node) (Live : ℕ → Type 0) (ls : List Link) (i s : ℕ) → i < length ls → get_or ls i (Decision 0) ≡ Record s → AllByRecursion (Fit k nodes Live 0) ls → Live s
root_fits k nodes Live ls i s b e f = (record_fits k nodes Live 0 (get_or ls i (Decision 0)) s e (All-get_or (Fit k nodes Live 0) ls i (Decision 0) b f)).0

-- marks of the roots alone are a beginning
pub roots_begin : (k : ℕ) (shape : List ℕ) (nodes : List Node) (roots : List Link) (marks : List ℕ) → SoundRoots k shape nodes roots → marks ≡ replicate (length nodes) 0 → ClosedBelow shape nodes roots (marked_by_all roots marks) 0
roots_begin k shape nodes roots marks sound none = record {
  roots_are_marked = λ i r b e. marks_each roots marks r i b e (subst (λ (n : ℕ). r < n) (sym (ap length none ∙ length-replicate (length nodes) 0)) (sound.what_they_reach_is_sound.in_memory r (root_fits k nodes (Met nodes shape roots) roots i r b e sound.each_root_fits)));
  what_lower_records_lead_to_is_marked = λ r m l. absurd (omega arith);
  only_what_is_met_is_marked = λ r m.
      ⊎_elim (λ o. absurd (unmarked (length nodes) r (subst (λ ms. Marked ms r) none o)))
      (λ a. root_fits k nodes (Met nodes shape roots) roots a.0 r a.1 a.2 sound.each_root_fits)
      (marked_new roots marks r m);
}
