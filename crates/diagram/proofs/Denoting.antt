-- What links denote: lengths, canonicity, parts and sizes, and the frame.
use Rattle.std.proofs.Common.{◌≡◌, ℕ, suc, ◌<◌, ◌≤◌, true, false, cond, eqb, List, [], ◌∷◌, ◌++◌, map, length, get_or, drop, set, sym, refl, ap, ◌∙◌, subst, ap₂, ⊎_elim, arith}
use Rattle.std.specs.List.{flat_map, AllByRecursion}
use Rattle.std.proofs.lemmas.List.{map-append, get_or-set_other}
use Rattle.std.proofs.ByRecursion.{All-append}
use Rattle.std.proofs.lemmas.Bool.{eqb-true, eqb-false, eq-eqb, cases_Bool, cases_lt, cond-true, cond-false}
use Rattle.std.proofs.lemmas.Bool.Decides.{Decides-eqb, Decides-like, same_from_decides}
use Rattle.vocabulary.specs.Grid.{grid}
use Rattle.pages.specs.Pages.{runs, chunk}
use Rattle.pages.specs.Parts.{Part, same, differs, only_if, parts}
use Rattle.pages.specs.Sizes.{count, size}
use Rattle.pages.proofs.Runs.{length_runs, runs_same, runs-parts, all_runs, map_runs, chunk-runs, drop-step, drop_end}
use Rattle.pages.proofs.Deciding.{decides-same, differs_none, differs_false}
use Rattle.pages.proofs.Counting.{count_map}
use Rattle.diagram.specs.declared.Node.{Node}
use Rattle.diagram.specs.declared.Link.{Link}
use Rattle.diagram.specs.declared.Link.TheVariants.{Decision, Record}
use Rattle.diagram.specs.Diagram.{blank, node, link, branch, next, page, record_at, met, part}
use Rattle.vocabulary.specs.Grid.{Filled}
use Rattle.diagram.specs.Sound.{Fit, Sound, Agree}

-- each cell has a page of the rest
pub length-page : (nodes : List Node) (j : ℕ) (ns : List ℕ) (l : Link) → length (page nodes j ns l) ≡ grid ns
length-page nodes j [] l = refl
length-page nodes j (n ∷ ns) l = length_runs n (grid ns) (λ c. page nodes (suc j) ns (next nodes j l c)) (λ c. length-page nodes (suc j) ns (next nodes j l c))

-- a link at level j is passed on in every cell, or is a record of that level
pub data View (nodes : List Node) (j : ℕ) : Link → Type 0 where
  flat : {l : Link} → ((c : ℕ) → next nodes j l c ≡ l) → record_at nodes j l ≡ [] → View nodes j l
  at : {r : ℕ} → (node nodes r).level ≡ j → View nodes j (Record r)

-- whether it is passed on is told by comparing levels
pub view : (nodes : List Node) (j : ℕ) (l : Link) → View nodes j l
view nodes j (Decision d) = flat (λ c. refl) refl
view nodes j (Record r) =
    ⊎_elim (λ t. at (eqb-true (node nodes r).level j t))
    (λ f. flat (λ c. cond-false (eqb (node nodes r).level j) (branch nodes r c) (Record r) f) (ap (λ b. only_if b r) f))
    (cases_Bool (eqb (node nodes r).level j))

-- a record leads at its level to its branch
pub next-at : (nodes : List Node) (j r : ℕ) → (node nodes r).level ≡ j → (c : ℕ) → next nodes j (Record r) c ≡ branch nodes r c
next-at nodes j r e c = cond-true (eqb (node nodes r).level j) (branch nodes r c) (Record r) (eq-eqb (node nodes r).level j e)

module _ (k : ℕ) (shape : List ℕ) (nodes : List Node) (Live : ℕ → Type 0) (sound : Sound k shape nodes Live) where
  -- where a fit link leads is fit one level on
  pub next_fit : (j n : ℕ) → get_or shape j 0 ≡ n → (l : Link) → Fit k nodes Live j l → (c : ℕ) → c < n → Fit k nodes Live (suc j) (next nodes j l c)
  next_fit j n e (Decision d) f c i = f
  next_fit j n e (Record r) f c i =
      ⊎_elim
      (λ t.
      let q : (node nodes r).level ≡ j = eqb-true (node nodes r).level j t in
      let m : get_or shape (node nodes r).level 0 ≡ n = ap (λ (i : ℕ). get_or shape i 0) q ∙ e in
      let h : c < get_or shape (node nodes r).level 0 = omega arith in
      subst (Fit k nodes Live (suc j)) (sym (next-at nodes j r q c))
      (subst (λ (i : ℕ). Fit k nodes Live (suc i) (branch nodes r c)) q ((sound.each_is_proper r f.0).branches_lead_on c h)))
      (λ b.
      let q : (node nodes r).level ≡ j → ⊥ = eqb-false (node nodes r).level j b in
      let h : j ≤ (node nodes r).level = f.1 in
      subst (Fit k nodes Live (suc j)) (sym (cond-false (eqb (node nodes r).level j) (branch nodes r c) (Record r) b)) (f.0, omega arith))
      (cases_Bool (eqb (node nodes r).level j))

  -- no link stands past the last attribute but a decision
  ends : (j : ℕ) → length shape ≤ j → (a b : Link) → Fit k nodes Live j a → Fit k nodes Live j b → page nodes j [] a ≡ page nodes j [] b → a ≡ b
  ends j l (Decision d) (Decision e) f g h = cc
  ends j l (Record r) b f g h = let i = (sound.each_is_proper r f.0).at_an_attribute in let u = f.1 in absurd (omega arith)
  ends j l (Decision d) (Record r) f g h = let i = (sound.each_is_proper r g.0).at_an_attribute in let u = g.1 in absurd (omega arith)

  -- a record's branches are not all one link
  not_flat : (r n : ℕ) → Live r → get_or shape (node nodes r).level 0 ≡ n → 0 < n → (a : Link) → ((c : ℕ) → c < n → branch nodes r c ≡ a) → ⊥
  not_flat r n v e p a h =
      let t = (sound.each_is_proper r v).two_branches_differ in
      let i : t.0 < n = subst (λ (m : ℕ). t.0 < m) e t.1 in
      t.2 (h t.0 i ∙ sym (h 0 p))

  -- links that lead to the same in every cell are the same: two that are passed on, or two records that are alike, for a record does not lead everywhere to one link
  next-same : (j n : ℕ) → get_or shape j 0 ≡ n → 0 < n → (a b : Link) → Fit k nodes Live j a → Fit k nodes Live j b
      → View nodes j a → View nodes j b → ((c : ℕ) → c < n → next nodes j a c ≡ next nodes j b c) → a ≡ b
  next-same j n e p a b f g (flat u _) (flat v _) h = sym (u 0) ∙ h 0 p ∙ v 0
  next-same j n e p a b f g (flat u _) (at {r} q) h =
      absurd (not_flat r n g.0 (ap (λ (i : ℕ). get_or shape i 0) q ∙ e) p a (λ c l. sym (next-at nodes j r q c) ∙ sym (h c l) ∙ u c))
  next-same j n e p a b f g (at {r} q) (flat u _) h =
      absurd (not_flat r n f.0 (ap (λ (i : ℕ). get_or shape i 0) q ∙ e) p b (λ c l. sym (next-at nodes j r q c) ∙ h c l ∙ u c))
  next-same j n e p a b f g (at {r} q) (at {r = s} w) h =
      ap Record (sound.none_is_there_twice r s f.0 g.0 (
        q ∙ sym w,
        λ c _. ⊎_elim (λ l. sym (next-at nodes j r q c) ∙ h c l ∙ next-at nodes j s w c)
            (λ l.
            let x : get_or shape (node nodes r).level 0 ≡ n = ap (λ (i : ℕ). get_or shape i 0) q ∙ e in
            let y : get_or shape (node nodes s).level 0 ≡ n = ap (λ (i : ℕ). get_or shape i 0) w ∙ e in
            (sound.each_is_proper r f.0).others_are_blank c (omega arith) ∙ sym ((sound.each_is_proper s g.0).others_are_blank c (omega arith)))
            (cases_lt c n),
      ))

  module _ (filled : Filled shape) where
    -- links of one page lead in each cell to links of one page, so by induction to the same, and are the same
    pub canonical : (j : ℕ) (ns : List ℕ) → drop j shape ≡ ns → (a b : Link) → Fit k nodes Live j a → Fit k nodes Live j b → page nodes j ns a ≡ page nodes j ns b → a ≡ b
    canonical j [] e a b f g h = ends j (drop_end shape j e) a b f g h
    canonical j (n ∷ ns) e a b f g h =
        let s = drop-step shape j n ns e in
        let p : 0 < n = subst (λ (m : ℕ). 0 < m) s.1 (filled j s.0) in
        next-same j n s.1 p a b f g (view nodes j a) (view nodes j b)
        (λ c l.
        canonical (suc j) ns s.2 (next nodes j a c) (next nodes j b c) (next_fit j n s.1 a f c l) (next_fit j n s.1 b g c l)
        (runs-parts n (λ c. page nodes (suc j) ns (next nodes j a c)) (λ c. page nodes (suc j) ns (next nodes j b c))
        (λ c. length-page nodes (suc j) ns (next nodes j a c) ∙ sym (length-page nodes (suc j) ns (next nodes j b c))) h c l))

    -- a page branches exactly where its link is a record of this level, for else it is passed on in every cell
    first : (j n : ℕ) (ns : List ℕ) → drop j shape ≡ n ∷ ns → get_or shape j 0 ≡ n → drop (suc j) shape ≡ ns → 0 < n → (l : Link) → Fit k nodes Live j l → View nodes j l
        → only_if (differs n (chunk (grid ns) (page nodes j (n ∷ ns) l)) (chunk (grid ns) (page nodes j (n ∷ ns) l) 0)) (j, page nodes j (n ∷ ns) l) ≡ map (part nodes shape) (record_at nodes j l)
    first j n ns e w d p l f (flat u z) =
        let q : List ℕ = page nodes j (n ∷ ns) l in
        let cut : (c : ℕ) → c < n → chunk (grid ns) q c ≡ page nodes (suc j) ns l =
        λ c i. chunk-runs n (grid ns) (λ c. page nodes (suc j) ns (next nodes j l c)) (λ c. length-page nodes (suc j) ns (next nodes j l c)) c i ∙ ap (page nodes (suc j) ns) (u c)
        in
        ap (λ b. only_if {X = Part} b (j, q)) (differs_none n (chunk (grid ns) q) (chunk (grid ns) q 0) (λ c i. cut c i ∙ sym (cut 0 p))) ∙ sym (ap (map (part nodes shape)) z)
    first j n ns e w d p l f (at {r} v) =
        let q : List ℕ = page nodes j (n ∷ ns) (Record r) in
        let cut : (c : ℕ) → c < n → chunk (grid ns) q c ≡ page nodes (suc j) ns (branch nodes r c) =
        λ c i.
        chunk-runs n (grid ns) (λ c. page nodes (suc j) ns (next nodes j (Record r) c)) (λ c. length-page nodes (suc j) ns (next nodes j (Record r) c)) c i
        ∙ ap (page nodes (suc j) ns) (next-at nodes j r v c)
        in
        let fit : (c : ℕ) → c < n → Fit k nodes Live (suc j) (branch nodes r c) =
        λ c i. subst (Fit k nodes Live (suc j)) (next-at nodes j r v c) (next_fit j n w (Record r) f c i)
        in
        let yes' : differs n (chunk (grid ns) q) (chunk (grid ns) q 0) ≡ true =
        ⊎_elim (λ t. t)
        (λ t.
        absurd (not_flat r n f.0 (ap (λ (i : ℕ). get_or shape i 0) v ∙ w) p (branch nodes r 0)
        (λ c i. canonical (suc j) ns d (branch nodes r c) (branch nodes r 0) (fit c i) (fit 0 p)
        (sym (cut c i) ∙ differs_false n (chunk (grid ns) q) (chunk (grid ns) q 0) t c i ∙ cut 0 p))))
        (cases_Bool (differs n (chunk (grid ns) q) (chunk (grid ns) q 0)))
        in
        let same-part : part nodes shape r ≡ (j, q) =
        ap {B = Part} (λ (i : ℕ). (i, page nodes i (drop i shape) (Record r))) v ∙ ap {B = Part} (λ (s : List ℕ). (j, page nodes j s (Record r))) e
        in
        ap (λ b. only_if {X = Part} b (j, q)) yes' ∙ ap {B = List Part} (λ t. t ∷ []) (sym same-part) ∙ sym (ap (λ b. map (part nodes shape) (only_if b r)) (eq-eqb (node nodes r).level j v))

    -- the branching parts of a page are, in order, those that the records met denote, by induction on the shape that is left
    pub parts-met : (j : ℕ) (ns : List ℕ) → drop j shape ≡ ns → (l : Link) → Fit k nodes Live j l → parts j ns (page nodes j ns l) ≡ map (part nodes shape) (met nodes j ns l)
    parts-met j [] e l f = refl
    parts-met j (n ∷ ns) e l f =
        let s = drop-step shape j n ns e in
        let p : 0 < n = subst (λ (m : ℕ). 0 < m) s.1 (filled j s.0) in
        ap₂ ◌++◌ (first j n ns e s.1 s.2 p l f (view nodes j l))
        (runs_same n (λ c. parts (suc j) ns (chunk (grid ns) (page nodes j (n ∷ ns) l) c)) (λ c. map (part nodes shape) (met nodes (suc j) ns (next nodes j l c)))
        (λ c i.
        ap (parts (suc j) ns)
        (chunk-runs n (grid ns) (λ c. page nodes (suc j) ns (next nodes j l c)) (λ c. length-page nodes (suc j) ns (next nodes j l c)) c i)
        ∙ parts-met (suc j) ns s.2 (next nodes j l c) (next_fit j n s.1 l f c i))
        ∙ sym (map_runs (part nodes shape) n (λ c. met nodes (suc j) ns (next nodes j l c))))
        ∙ sym (map-append (part nodes shape) (record_at nodes j l) (runs n (λ c. met nodes (suc j) ns (next nodes j l c))))

    -- distinct live records denote distinct parts
    pub part_same : (r s : ℕ) → Live r → Live s → part nodes shape r ≡ part nodes shape s → r ≡ s
    part_same r s u v e =
        let a : (node nodes r).level ≡ (node nodes s).level = ap (λ (t : Part). t.0) e in
        let b : page nodes (node nodes r).level (drop (node nodes r).level shape) (Record r) ≡ page nodes (node nodes s).level (drop (node nodes s).level shape) (Record s) =
        ap (λ (t : Part). t.1) e
        in
        let b' : page nodes (node nodes r).level (drop (node nodes r).level shape) (Record r) ≡ page nodes (node nodes r).level (drop (node nodes r).level shape) (Record s) =
        b ∙ ap (λ (i : ℕ). page nodes i (drop i shape) (Record s)) (sym a)
        in
        let l : Record r ≡ Record s = canonical (node nodes r).level (drop (node nodes r).level shape) refl (Record r) (Record s) (u, omega arith) (v, omega arith) b' in
        cc

    -- so the tests for equal parts and for equal records agree
    pub part_eqb : (r s : ℕ) → Live r → Live s → same (part nodes shape r) (part nodes shape s) ≡ eqb r s
    part_eqb r s u v =
        same_from_decides (same (part nodes shape r) (part nodes shape s)) (eqb r s)
        (Decides-like (same (part nodes shape r) (part nodes shape s)) (part_same r s u v) (λ e. ap (part nodes shape) e) (decides-same (part nodes shape r) (part nodes shape s)))
        (Decides-eqb r s)

  -- what is met is live
  record_live : (j : ℕ) (l : Link) → Fit k nodes Live j l → AllByRecursion Live (record_at nodes j l)
  record_live j (Decision d) f = tt
  record_live j (Record r) f = elim (eqb (node nodes r).level j) as (λ b. AllByRecursion Live (only_if b r)) [ true ↦ (f.0, tt) | false ↦ tt ]

  -- what is met further on is live, for branches lead to live records
  pub met_live : (j : ℕ) (ns : List ℕ) → drop j shape ≡ ns → (l : Link) → Fit k nodes Live j l → AllByRecursion Live (met nodes j ns l)
  met_live j [] e l f = tt
  met_live j (n ∷ ns) e l f =
      let s = drop-step shape j n ns e in
      All-append Live (record_at nodes j l) (runs n (λ c. met nodes (suc j) ns (next nodes j l c))) (record_live j l f)
      (all_runs Live n (λ c. met nodes (suc j) ns (next nodes j l c))
      (λ c i. met_live (suc j) ns s.2 (next nodes j l c) (next_fit j n s.1 l f c i)))

  -- the same from several roots
  pub all_met_live : (roots : List Link) → AllByRecursion (Fit k nodes Live 0) roots → AllByRecursion Live (flat_map (met nodes 0 shape) roots)
  all_met_live [] a = tt
  all_met_live (l ∷ ls) a = All-append Live (met nodes 0 shape l) (flat_map (met nodes 0 shape) ls) (met_live 0 shape refl l a.0) (all_met_live ls a.1)

  module _ (filled : Filled shape) where
    -- the same from several roots, one after the other
    pub all_parts-met : (roots : List Link) → AllByRecursion (Fit k nodes Live 0) roots
        → flat_map (parts 0 shape) (map (page nodes 0 shape) roots) ≡ map (part nodes shape) (flat_map (met nodes 0 shape) roots)
    all_parts-met [] a = refl
    all_parts-met (l ∷ ls) a =
        ap₂ ◌++◌ (parts-met filled 0 shape refl l a.0) (all_parts-met ls a.1) ∙ sym (map-append (part nodes shape) (met nodes 0 shape l) (flat_map (met nodes 0 shape) ls))

    -- the size of policies together is the number of records met from their roots
    pub size-met : (roots : List Link) → AllByRecursion (Fit k nodes Live 0) roots
        → size shape (map (page nodes 0 shape) roots) ≡ count eqb (flat_map (met nodes 0 shape) roots)
    size-met roots a =
        ap (count same) (all_parts-met roots a)
        ∙ count_map eqb same (part nodes shape) Live (part_eqb filled) (flat_map (met nodes 0 shape) roots) (all_met_live roots a)

  -- the frame
  module _ (nodes' : List Node) (agree : Agree Live nodes nodes') where
    -- where a live record leads does not change with records that are not live
    pub next_frame : (j : ℕ) (l : Link) → Fit k nodes Live j l → (c : ℕ) → next nodes' j l c ≡ next nodes j l c
    next_frame j (Decision d) f c = refl
    next_frame j (Record r) f c = ap (λ (x : Node). cond (eqb x.level j) (link x c) (Record r)) (agree r f.0)

    -- and so its page, by induction on the shape that is left
    pub page_frame : (j : ℕ) (ns : List ℕ) → drop j shape ≡ ns → (l : Link) → Fit k nodes Live j l → page nodes' j ns l ≡ page nodes j ns l
    page_frame j [] e l f = refl
    page_frame j (n ∷ ns) e l f =
        let s = drop-step shape j n ns e in
        runs_same n (λ c. page nodes' (suc j) ns (next nodes' j l c)) (λ c. page nodes (suc j) ns (next nodes j l c))
        (λ c i. ap (page nodes' (suc j) ns) (next_frame j l f c) ∙ page_frame (suc j) ns s.2 (next nodes j l c) (next_fit j n s.1 l f c i))

    -- the same records are met from it
    pub met_frame : (j : ℕ) (ns : List ℕ) → drop j shape ≡ ns → (l : Link) → Fit k nodes Live j l → met nodes' j ns l ≡ met nodes j ns l
    met_frame j [] e l f = refl
    met_frame j (n ∷ ns) e l f =
        let s = drop-step shape j n ns e in
        ap₂ ◌++◌ (here l f)
        (runs_same n (λ c. met nodes' (suc j) ns (next nodes' j l c)) (λ c. met nodes (suc j) ns (next nodes j l c))
        (λ c i. ap (met nodes' (suc j) ns) (next_frame j l f c) ∙ met_frame (suc j) ns s.2 (next nodes j l c) (next_fit j n s.1 l f c i)))
      where
        here : (l : Link) → Fit k nodes Live j l → record_at nodes' j l ≡ record_at nodes j l
        here (Decision d) f = refl
        here (Record r) f = ap (λ (x : Node). only_if (eqb x.level j) r) (agree r f.0)

  -- writing one record leaves the others
  pub agree_set : (r : ℕ) (x : Node) → (Live r → ⊥) → Agree Live nodes (set nodes r x)
  agree_set r x h s v = get_or-set_other nodes r s x blank (λ e. h (subst Live e v))
