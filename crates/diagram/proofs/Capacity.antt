-- When node memory suffices.
use Rattle.std.proofs.Common.{◌≡◌, ℕ, suc, ◌<◌, ◌≤◌, true, false, cond, eqb, ◌≢◌, List, ◌∷◌, map, length, sym, refl, ap, ◌∙◌, subst, ⊎_elim, arith}
use Rattle.std.specs.List.{flat_map, AllByRecursion}
use Rattle.std.proofs.ByRecursion.{All-weaker, All-map}
use Rattle.std.proofs.lemmas.Bool.{eqb-true, eq-eqb, cases_Bool}
use Rattle.pages.specs.Parts.{Part, same, has}
use Rattle.pages.specs.Sizes.{count, parts_of, size}
use Rattle.pages.proofs.Deciding.{decides-same}
use Rattle.pages.proofs.Members.{from-map, has_image, all_members, all_member}
use Rattle.pages.proofs.Sizing.{from_pages, to_pages}
use Rattle.pages.proofs.Counting.{count_map, below, all_below, count-below, count-limited, count-within}
use Rattle.diagram.specs.declared.Node.{Node}
use Rattle.diagram.specs.declared.Link.{Link}
use Rattle.diagram.specs.Diagram.{page, met, part}
use Rattle.vocabulary.specs.Grid.{Filled}
use Rattle.diagram.specs.Sound.{Fit, Sound, Met}
use Rattle.diagram.specs.Reduced.{HeldByRecords}
use Rattle.diagram.proofs.Denoting.{part_eqb, all_met_live, all_parts-met, size-met}

module _ (k : ℕ) (shape : List ℕ) (nodes : List Node) (Live : ℕ → Type 0) (sound : Sound k shape nodes Live) (filled : Filled shape) where
  -- the parts of the pages are, in order, those of the records met, so a part of one is held by a record and a record holds a part of one
  pub held : (roots : List Link) → AllByRecursion (Fit k nodes Live 0) roots → HeldByRecords shape nodes Live roots
  held roots a =
      record {
        in_order = order;
        each_record_met_is_live = λ r m. all_member eqb Live eqb-true r rs m (all_met_live k shape nodes Live sound roots a);
        each_record_met_holds_a_part =
            λ r m.
            from_pages shape (map (page nodes 0 shape) roots) (part nodes shape r)
            (subst (λ ps. has same (part nodes shape r) ps ≡ true) (sym order)
            (has_image eqb same eqb-true (λ q. (decides-same q q).1 refl) (part nodes shape) r rs m));
        each_part_is_held =
            λ p i q b.
            from-map same (λ x y. (decides-same x y).0) (Met nodes shape roots) (part nodes shape) q rs (all_members eqb (λ r. eq-eqb r r refl) rs)
            (subst (λ ps. has same q ps ≡ true) order (to_pages shape (map (page nodes 0 shape) roots) q p i b));
      }
    where
      rs : List ℕ
      rs = flat_map (met nodes 0 shape) roots

      order : parts_of shape (map (page nodes 0 shape) roots) ≡ map (part nodes shape) (flat_map (met nodes 0 shape) roots)
      order = all_parts-met k shape nodes Live sound filled roots a

  -- what stands has no more distinct branching parts than there are records
  pub enough : (roots : List Link) → AllByRecursion (Fit k nodes Live 0) roots → size shape (map (page nodes 0 shape) roots) ≤ length nodes
  enough roots a =
      let e : size shape (map (page nodes 0 shape) roots) ≡ count eqb (flat_map (met nodes 0 shape) roots) = size-met k shape nodes Live sound filled roots a in
      let h : count eqb (flat_map (met nodes 0 shape) roots) ≤ length nodes =
      count-limited (length nodes) (flat_map (met nodes 0 shape) roots)
      (All-weaker Live (λ r. r < length nodes) sound.in_memory (flat_map (met nodes 0 shape) roots) (all_met_live k shape nodes Live sound roots a))
      in
      omega arith

  -- all records are live, each denotes one of the parts ps, and ps has one part more
  pub lacking : (ps : List Part) (q : Part) → ((r : ℕ) → r < length nodes → Live r × (has same (part nodes shape r) ps ≡ true) × (part nodes shape r ≢ q)) → has same q ps ≡ true
      → length nodes < count same ps
  lacking ps q h m =
      let xs : List Part = map (part nodes shape) (below (length nodes)) in
      let new : has same q xs ≡ false =
      ⊎_elim
      (λ t.
      let w = from-map same (λ x y. (decides-same x y).0) (λ r. part nodes shape r ≢ q) (part nodes shape) q (below (length nodes)) (all_below (λ r. part nodes shape r ≢ q) (length nodes) (λ r l. (h r l).2)) t in
      absurd (w.1 w.2))
      (λ t. t) (cases_Bool (has same q xs))
      in
      let a : count same xs ≡ length nodes =
      count_map eqb same (part nodes shape) Live (part_eqb k shape nodes Live sound filled) (below (length nodes)) (all_below Live (length nodes) (λ r l. (h r l).0)) ∙ count-below (length nodes)
      in
      let b : count same (q ∷ xs) ≡ suc (count same xs) = ap (λ b. cond b (count same xs) (suc (count same xs))) new in
      let i : count same (q ∷ xs) ≤ count same ps =
      count-within same decides-same (q ∷ xs) ps
      (m, All-map (λ t. has same t ps ≡ true) (part nodes shape) (below (length nodes)) (all_below (λ r. has same (part nodes shape r) ps ≡ true) (length nodes) (λ r l. (h r l).1)))
      in
      omega arith
