-- A record is lacking exactly where the standing pages and the new one together have more distinct branching parts than there are records.
use Rattle.std.proofs.Common.{◌≡◌, ℕ, ◌<◌, ◌≤◌, true, eqb, ◌⊎◌, List, [], ◌∷◌, ◌++◌, map, length, Some, None, Option, sym, refl, ◌∙◌, subst, ap₂, inl, inr, ⊎_elim, arith}
use Rattle.std.specs.List.{flat_map, AllByRecursion}
use Rattle.std.proofs.lemmas.Bool.{eqb-true}
use Rattle.pages.specs.Parts.{Part, same, has, parts, Branching}
use Rattle.pages.specs.Sizes.{parts_of, size}
use Rattle.pages.proofs.Deciding.{decides-same}
use Rattle.pages.proofs.Members.{has_left, has_right, has_cases, has_image, from-map}
use Rattle.pages.proofs.Branches.{parts_are_branching}
use Rattle.marking.specs.Marks.{Marked}
use Rattle.diagram.specs.declared.Node.{Node}
use Rattle.diagram.specs.declared.Link.{Link}
use Rattle.diagram.specs.Diagram.{page, part, met}
use Rattle.diagram.specs.Sound.{Fit, Meant}
use Rattle.diagram.specs.Growing.{Grown}
use Rattle.diagram.proofs.Denoting.{page_frame, all_parts-met, all_met_live, part_same}
use Rattle.diagram.proofs.Making.{part_frame}
use Rattle.diagram.proofs.Changing.{fit_frame}
use Rattle.diagram.proofs.Capacity.{enough}
use Rattle.table.specs.Built.{CoversBoth, Built}
use Rattle.table.specs.Exact.{OnlyRootsStand, AnsweredByCapacity, CapacityDecides, OnlyPartsOfThePageCome}

module _ (k : ℕ) (shape : List ℕ) (nodes : List Node) (marks : List ℕ) (roots : List Link) (stand : OnlyRootsStand k shape nodes marks roots) where
  -- the live records denote parts of the roots' pages
  meant_by_roots : Meant shape nodes (Marked marks) (parts_of shape (map (page nodes 0 shape) roots))
  meant_by_roots r v =
      subst (λ ps. has same (part nodes shape r) ps ≡ true) (sym (all_parts-met k shape nodes (Marked marks) stand.live_is_sound stand.attributes_have_cells roots stand.roots_may_stand))
      (has_image eqb same eqb-true (λ q. (decides-same q q).1 refl) (part nodes shape) r (flat_map (met nodes 0 shape) roots) (stand.only_what_they_meet_is_live r v))

  module _ (nodes' : List Node) (marks' : List ℕ) (p : List ℕ) where
    -- the parts of the page and of the roots' pages
    abbrev all_parts : List Part
    all_parts = parts 0 shape p ++ parts_of shape (map (page nodes 0 shape) roots)

    -- they cover both
    covers : CoversBoth shape nodes (Marked marks) 0 p all_parts
    covers = (
      λ r v. has_right same (part nodes shape r) (parts 0 shape p) (parts_of shape (map (page nodes 0 shape) roots)) (meant_by_roots r v),
      λ q i. has_left same q (parts 0 shape p) (parts_of shape (map (page nodes 0 shape) roots)) i,
    )

    -- none: they outnumber the records
    none_lacks : Built k shape nodes (Marked marks) nodes' (Marked marks') 0 p None → length nodes < size shape (p ∷ map (page nodes 0 shape) roots)
    none_lacks h = h.link_or_lack all_parts covers

    -- in memory that has grown the roots may stand, and keep their pages
    kept_pages : Grown k shape nodes (Marked marks) nodes' (Marked marks') → (ls : List Link) → AllByRecursion (Fit k nodes (Marked marks) 0) ls → map (page nodes' 0 shape) ls ≡ map (page nodes 0 shape) ls
    kept_pages g [] a = refl
    kept_pages g (x ∷ xs) a = ap₂ ◌∷◌ (page_frame k shape nodes (Marked marks) stand.live_is_sound nodes' g.live_records_stay 0 shape refl x a.0) (kept_pages g xs a.1)

    still_stand : Grown k shape nodes (Marked marks) nodes' (Marked marks') → (ls : List Link) → AllByRecursion (Fit k nodes (Marked marks) 0) ls → AllByRecursion (Fit k nodes' (Marked marks') 0) ls
    still_stand g [] a = tt
    still_stand g (x ∷ xs) a = (fit_frame k shape nodes nodes' (Marked marks) (Marked marks') g.live_records_stay g.live_stays_live 0 x a.0, still_stand g xs a.1)

    -- some: the new link stands beside the roots, in as many records
    some_fits : (l : Link) → Built k shape nodes (Marked marks) nodes' (Marked marks') 0 p (Some l) → size shape (p ∷ map (page nodes 0 shape) roots) ≤ length nodes
    some_fits l h =
        let g = h.memory_has_grown in
        let e : map (page nodes' 0 shape) (l ∷ roots) ≡ p ∷ map (page nodes 0 shape) roots = ap₂ ◌∷◌ h.link_or_lack.1 (kept_pages g roots stand.roots_may_stand) in
        let b : size shape (map (page nodes' 0 shape) (l ∷ roots)) ≤ length nodes' =
        enough k shape nodes' (Marked marks') g.still_sound stand.attributes_have_cells (l ∷ roots) (h.link_or_lack.0, still_stand g roots stand.roots_may_stand)
        in
        let b' : size shape (p ∷ map (page nodes 0 shape) roots) ≤ length nodes' = subst (λ ps. size shape ps ≤ length nodes') e b in
        omega (arith, g.memory_is_as_long)

    answered : (r : Option Link) → Built k shape nodes (Marked marks) nodes' (Marked marks') 0 p r → AnsweredByCapacity shape (length nodes) (p ∷ map (page nodes 0 shape) roots) r
    answered (Some l) h = some_fits l h
    answered None h = none_lacks h

    -- a record that came holds one of them; one of the roots' pages is held by a record that was live, and no two records hold one part
    came : (r : Option Link) → Built k shape nodes (Marked marks) nodes' (Marked marks') 0 p r → (s : ℕ) → Marked marks' s → Marked marks s ⊎ Branching shape p (part nodes' shape s)
    came r h s v =
        ⊎_elim (λ t. inr ((parts_are_branching shape p (part nodes' shape s)).what_is_computed_branches t)) (λ t. inl (was_live t))
        (has_cases same (part nodes' shape s) (parts 0 shape p) (parts_of shape (map (page nodes 0 shape) roots)) (h.only_parts_of_the_page_came all_parts covers s v))
      where
        was_live : has same (part nodes' shape s) (parts_of shape (map (page nodes 0 shape) roots)) ≡ true → Marked marks s
        was_live t =
            let g = h.memory_has_grown in
            let rs : List ℕ = flat_map (met nodes 0 shape) roots in
            let sound = stand.live_is_sound in
            let f =
            from-map same (λ x y. (decides-same x y).0) (Marked marks) (part nodes shape) (part nodes' shape s) rs (all_met_live k shape nodes (Marked marks) sound roots stand.roots_may_stand)
            (subst (λ ps. has same (part nodes' shape s) ps ≡ true) (all_parts-met k shape nodes (Marked marks) sound stand.attributes_have_cells roots stand.roots_may_stand) t)
            in
            let e : f.0 ≡ s =
            part_same k shape nodes' (Marked marks') g.still_sound stand.attributes_have_cells f.0 s (g.live_stays_live f.0 f.1) v
            (part_frame k shape nodes nodes' (Marked marks) (Marked marks') sound g.live_records_stay f.0 f.1 ∙ f.2)
            in
            subst (Marked marks) e f.1

pub capacity_decides_lem : CapacityDecides
capacity_decides_lem k shape nodes marks roots stand nodes' marks' p r h = answered k shape nodes marks roots stand nodes' marks' p r h

pub only_parts_come : OnlyPartsOfThePageCome
only_parts_come k shape nodes marks roots stand nodes' marks' p r h = came k shape nodes marks roots stand nodes' marks' p r h
