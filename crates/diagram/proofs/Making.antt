-- Making a record: what it denotes, and that node memory is full only where there are more parts than records.
use Rattle.std.proofs.Common.{◌≡◌, ℕ, suc, ◌<◌, ◌≤◌, true, ◌⊎◌, List, ◌∷◌, length, get_or, drop, sym, refl, ap, ◌∙◌, subst, ⊎_elim, arith, drop-cons}
use Rattle.std.proofs.lemmas.Bool.{cases_lt}
use Rattle.pages.specs.Pages.{runs}
use Rattle.pages.specs.Parts.{Part, same, has}
use Rattle.pages.specs.Sizes.{count}
use Rattle.pages.proofs.Runs.{runs_same, runs-parts}
use Rattle.diagram.specs.declared.Node.{Node}
use Rattle.diagram.specs.declared.Link.{Link}
use Rattle.diagram.specs.declared.Link.TheVariants.{Record}
use Rattle.diagram.specs.Diagram.{node, link, branch, next, page, part, says}
use Rattle.vocabulary.specs.Grid.{Filled}
use Rattle.diagram.specs.Sound.{Fit, Proper, Alike, Sound, Agree, Meant}
use Rattle.diagram.proofs.Denoting.{length-page, View, flat, at, view, next-at, canonical, page_frame}
use Rattle.diagram.proofs.Capacity.{lacking}

-- a record denotes what it says
pub page_record : (nodes : List Node) (shape : List ℕ) (r : ℕ) → (node nodes r).level < length shape → part nodes shape r ≡ ((node nodes r).level, says nodes shape (node nodes r))
page_record nodes shape r h =
    let j : ℕ = (node nodes r).level in
    ap {B = Part} (λ p. (j, p))
    (ap (λ s. page nodes j s (Record r)) (drop-cons shape j 0 h)
    ∙ runs_same (get_or shape j 0) (λ c. page nodes (suc j) (drop (suc j) shape) (next nodes j (Record r) c)) (λ c. page nodes (suc j) (drop (suc j) shape) (branch nodes r c))
    (λ c i. ap (page nodes (suc j) (drop (suc j) shape)) (next-at nodes j r refl c)))

-- a link that may stand one level on denotes here what it denotes there, once for each cell
pub page_skip : (k : ℕ) (nodes : List Node) (Live : ℕ → Type 0) (j n : ℕ) (ns : List ℕ) (l : Link) → Fit k nodes Live (suc j) l → page nodes j (n ∷ ns) l ≡ runs n (λ c. page nodes (suc j) ns l)
page_skip k nodes Live j n ns l f =
    runs_same n (λ c. page nodes (suc j) ns (next nodes j l c)) (λ c. page nodes (suc j) ns l) (λ c i. ap (page nodes (suc j) ns) (passed l f (view nodes j l) c))
  where
    passed : (l : Link) → Fit k nodes Live (suc j) l → View nodes j l → (c : ℕ) → next nodes j l c ≡ l
    passed l f (flat u z) c = u c
    passed l f (at {r} e) c = let h = f.1 in absurd (omega arith)

module _ (k : ℕ) (shape : List ℕ) (nodes : List Node) (Live : ℕ → Type 0) (sound : Sound k shape nodes Live) (filled : Filled shape) where
  -- a live record that says what x says is like x
  pub says_alike : (r : ℕ) (x : Node) → Live r → Proper k shape nodes Live x → part nodes shape r ≡ (x.level, says nodes shape x) → Alike (node nodes r) x
  says_alike r x v o e =
      let y : Node = node nodes r in
      let p = sound.each_is_proper r v in
      let q : ◌≡◌ {A = Part} (y.level, says nodes shape y) (x.level, says nodes shape x) = sym (page_record nodes shape r p.at_an_attribute) ∙ e in
      let a : y.level ≡ x.level = ap (λ (t : Part). t.0) q in
      let w : runs (get_or shape x.level 0) (λ c. page nodes (suc x.level) (drop (suc x.level) shape) (link y c)) ≡ says nodes shape x =
      ap (λ (i : ℕ). runs (get_or shape i 0) (λ c. page nodes (suc i) (drop (suc i) shape) (link y c))) (sym a) ∙ ap (λ (t : Part). t.1) q
      in
      let N : get_or shape y.level 0 ≡ get_or shape x.level 0 = ap (λ (i : ℕ). get_or shape i 0) a in (
        a,
        λ c _.
            ⊎_elim
            (λ l.
            canonical k shape nodes Live sound filled (suc x.level) (drop (suc x.level) shape) refl (link y c) (link x c)
            (subst (λ (i : ℕ). Fit k nodes Live (suc i) (link y c)) a (p.branches_lead_on c (omega arith))) (o.branches_lead_on c l)
            (runs-parts (get_or shape x.level 0) (λ c. page nodes (suc x.level) (drop (suc x.level) shape) (link y c)) (λ c. page nodes (suc x.level) (drop (suc x.level) shape) (link x c))
            (λ c.
            length-page nodes (suc x.level) (drop (suc x.level) shape) (link y c)
            ∙ sym (length-page nodes (suc x.level) (drop (suc x.level) shape) (link x c))) w c l))
            (λ l. p.others_are_blank c (omega arith) ∙ sym (o.others_are_blank c l)) (cases_lt c (get_or shape x.level 0)),
      )

  -- every record is live, none is like x, and all that they and x say is in ps: then ps has more distinct parts than there are records
  pub full : (ps : List Part) (x : Node) → Proper k shape nodes Live x → ((r : ℕ) → r < length nodes → Live r) → ((r : ℕ) → Live r → Alike (node nodes r) x → ⊥)
      → Meant shape nodes Live ps → has same (x.level, says nodes shape x) ps ≡ true → length nodes < count same ps
  full ps x o taken new meant h =
      lacking k shape nodes Live sound filled ps (x.level, says nodes shape x) (λ r l. (taken r l, meant r (taken r l), λ e. new r (taken r l) (says_alike r x (taken r l) o e))) h

-- one more record that says something of ps
module _ (k : ℕ) (shape : List ℕ) (nodes nodes' : List Node) (Live Live' : ℕ → Type 0) (sound : Sound k shape nodes Live) (agree : Agree Live nodes nodes') where
  -- what a proper record says does not change with what is not live
  pub says_frame : (x : Node) → Proper k shape nodes Live x → says nodes' shape x ≡ says nodes shape x
  says_frame x o =
      runs_same (get_or shape x.level 0) (λ c. page nodes' (suc x.level) (drop (suc x.level) shape) (link x c)) (λ c. page nodes (suc x.level) (drop (suc x.level) shape) (link x c))
      (λ c l. page_frame k shape nodes Live sound nodes' agree (suc x.level) (drop (suc x.level) shape) refl (link x c) (o.branches_lead_on c l))

  -- nor does the part of a live record
  pub part_frame : (r : ℕ) → Live r → part nodes' shape r ≡ part nodes shape r
  part_frame r v =
      let e : (node nodes' r).level ≡ (node nodes r).level = ap (λ (x : Node). x.level) (agree r v) in
      ap {B = Part} (λ (i : ℕ). (i, page nodes' i (drop i shape) (Record r))) e
      ∙ ap {B = Part} (λ p. ((node nodes r).level, p))
      (page_frame k shape nodes Live sound nodes' agree (node nodes r).level (drop (node nodes r).level shape) refl (Record r) (v, omega arith))

  -- a record like x denotes what x says
  pub part-made : (x : Node) (r : ℕ) → Proper k shape nodes Live x → get_or shape x.level 0 ≤ 16 → Alike (node nodes' r) x → part nodes' shape r ≡ (x.level, says nodes shape x)
  part-made x r o room e =
      let l : (node nodes' r).level < length shape = subst (λ (m : ℕ). m < length shape) (sym e.0) o.at_an_attribute in
      page_record nodes' shape r l
      ∙ ap {B = Part} (λ (m : ℕ). (m, runs (get_or shape m 0) (λ c. page nodes' (suc m) (drop (suc m) shape) (branch nodes' r c)))) e.0
      ∙ ap {B = Part} (λ p. (x.level, p))
      (runs_same (get_or shape x.level 0) (λ c. page nodes' (suc x.level) (drop (suc x.level) shape) (branch nodes' r c))
      (λ c. page nodes' (suc x.level) (drop (suc x.level) shape) (link x c))
      (λ c i. ap (page nodes' (suc x.level) (drop (suc x.level) shape)) (e.1 c (omega arith)))
      ∙ says_frame x o)

  -- the records that were live denote what they denoted, and the new one what x says
  pub meant_more : (ps : List Part) (x : Node) (r : ℕ) → Proper k shape nodes Live x → get_or shape x.level 0 ≤ 16 → Alike (node nodes' r) x → Meant shape nodes Live ps → has same (x.level, says nodes shape x) ps ≡ true
      → ((s : ℕ) → Live' s → Live s ⊎ (s ≡ r)) → Meant shape nodes' Live' ps
  meant_more ps x r o room e m h least s v =
      ⊎_elim (λ u. subst (λ p. has same p ps ≡ true) (sym (part_frame s u)) (m s u))
      (λ (q : s ≡ r). subst (λ p. has same p ps ≡ true) (sym (ap (part nodes' shape) q ∙ part-made x r o room e)) h) (least s v)
