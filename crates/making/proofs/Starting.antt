-- Policies made one after the other, from no policy on.
use Rattle.std.proofs.Common.{◌≡◌, ℕ, zero, suc, ◌+◌, ◌<◌, ◌≤◌, true, false, List, [], ◌∷◌, length, get_or, replicate, Some, None, sym, refl, ap, ◌∙◌, subst, ap₂, arith}
use Rattle.std.proofs.lemmas.List.{length-replicate}
use Rattle.std.proofs.ByRecursion.{All-weaker}
use Rattle.std.proofs.lemmas.Bool.{both_ways}
use Rattle.vocabulary.specs.Grid.{grid, Cells, number}
use Rattle.vocabulary.proofs.Gridded.{number-below}
use Rattle.pages.specs.Parts.{same, has, parts}
use Rattle.pages.specs.Sizes.{parts_of, size}
use Rattle.pages.specs.Operators.{combined}
use Rattle.pages.proofs.Deciding.{decides-same}
use Rattle.pages.proofs.Members.{all_members, has_right}
use Rattle.pages.proofs.Counting.{count-within}
use Rattle.pages.proofs.Operating.{get_d_combined}
use Rattle.diagram.specs.declared.Node.{Node}
use Rattle.diagram.specs.declared.Link.{Link}
use Rattle.diagram.specs.Diagram.{page, walk}
use Rattle.diagram.specs.Sound.{Met}
use Rattle.diagram.proofs.Changing.{nothing_sound}
use Rattle.diagram.proofs.Walks.{page-at}
use Rattle.reaching.specs.Roots.{SoundRoots}
use Rattle.beside.specs.Makes.{Makes}
use Rattle.making.specs.Spans.{decisions_at}
use Rattle.making.proofs.Spanning.{length_decisions}

-- no roots are sound, whatever memory holds
pub no_roots : (k : ℕ) (shape : List ℕ) (nodes : List Node) → SoundRoots k shape nodes []
no_roots k shape nodes = record { what_they_reach_is_sound = nothing_sound k shape nodes (Met nodes shape []) (λ r m. both_ways false refl m); each_root_fits = tt }

-- bytes that are cleared twice are cleared
pub cleared_again : (bytes once twice : List ℕ) → once ≡ replicate (length bytes) 0 → twice ≡ replicate (length once) 0 → twice ≡ replicate (length bytes) 0
cleared_again bytes once twice e f = f ∙ ap (λ (n : ℕ). replicate n 0) (ap length e ∙ length-replicate (length bytes) 0)

-- with one page more the size does not fall, for no part is lost
size_behind : (shape p : List ℕ) (ps : List (List ℕ)) → size shape ps ≤ size shape (p ∷ ps)
size_behind shape p ps =
    count-within same decides-same (parts_of shape ps) (parts_of shape (p ∷ ps))
    (All-weaker (λ q. has same q (parts_of shape ps) ≡ true) (λ q. has same q (parts_of shape (p ∷ ps)) ≡ true) (λ q h. has_right same q (parts 0 shape p) (parts_of shape ps) h) (parts_of shape ps)
    (all_members same (λ q. (decides-same q q).1 refl) (parts_of shape ps)))

-- what is decided at a number that is asked for
decision-at : (f : ℕ → ℕ) (n a i : ℕ) → i < n → get_or (decisions_at f n a) i 0 ≡ f (a + i)
decision-at f zero a i h = absurd (omega arith)
decision-at f (suc n) a zero h = let e : a ≡ a + 0 = omega arith in ap f e
decision-at f (suc n) a (suc i) h = let e : suc a + i ≡ a + suc i = omega arith in decision-at f n (suc a) i (omega arith) ∙ ap f e

module _ (k : ℕ) (shape : List ℕ) (f : ℕ → ℕ → ℕ) (p q : List ℕ) (nodes : List Node) (enough : size shape (combined f p q ∷ q ∷ p ∷ []) ≤ length nodes) where
  two : size shape (q ∷ p ∷ []) ≤ length nodes
  two = omega (arith, size_behind shape (combined f p q) (q ∷ p ∷ []))

  -- there is room for the first
  pub first_has_room : (nodes₁ : List Node) → Makes k shape nodes [] nodes₁ p None → ⊥
  first_has_room nodes₁ m = omega (arith, m.root_or_lack, size_behind shape q (p ∷ []), two)

  module _ (nodes₁ : List Node) (a : Link) (first : Makes k shape nodes [] nodes₁ p (Some a)) where
    -- and beside it for the second
    pub second_has_room : (nodes₂ : List Node) → Makes k shape nodes₁ (a ∷ []) nodes₂ q None → ⊥
    second_has_room nodes₂ m =
        let lack : length nodes₁ < size shape (q ∷ p ∷ []) = subst (λ (x : List ℕ). length nodes₁ < size shape (q ∷ x ∷ [])) first.root_or_lack.denotes_the_page m.root_or_lack in
        omega (arith, lack, first.memory_is_as_long, two)

    module _ (nodes₂ : List Node) (b : Link) (second : Makes k shape nodes₁ (a ∷ []) nodes₂ q (Some b)) where
      -- both denote their pages
      left-page : page nodes₂ 0 shape a ≡ p
      left-page = ap (λ (ps : List (List ℕ)). get_or ps 0 []) second.others_still_stand.pages_are_kept ∙ first.root_or_lack.denotes_the_page

      right-page : page nodes₂ 0 shape b ≡ q
      right-page = second.root_or_lack.denotes_the_page

      both_combined : combined f (page nodes₂ 0 shape a) (page nodes₂ 0 shape b) ≡ combined f p q
      both_combined = ap₂ (combined f) left-page right-page

      -- and beside both for what is made of them
      pub third_has_room : (nodes₃ : List Node) → Makes k shape nodes₂ (b ∷ a ∷ []) nodes₃ (combined f (page nodes₂ 0 shape a) (page nodes₂ 0 shape b)) None → ⊥
      third_has_room nodes₃ m =
          let lack : length nodes₂ < size shape (combined f p q ∷ q ∷ p ∷ []) =
          subst (λ (x : List ℕ). length nodes₂ < size shape (x ∷ q ∷ p ∷ [])) both_combined
          (subst (λ (x : List ℕ). length nodes₂ < size shape (combined f (page nodes₂ 0 shape a) (page nodes₂ 0 shape b) ∷ q ∷ x ∷ [])) left-page
          (subst (λ (x : List ℕ). length nodes₂ < size shape (combined f (page nodes₂ 0 shape a) (page nodes₂ 0 shape b) ∷ x ∷ page nodes₂ 0 shape a ∷ [])) right-page m.root_or_lack))
          in
          omega (arith, lack, first.memory_is_as_long, second.memory_is_as_long, enough)

      -- what it decides is the operator on what both decide
      pub third_decides : (d e : ℕ → ℕ) → p ≡ decisions_at d (grid shape) 0 → q ≡ decisions_at e (grid shape) 0 → (cells : List ℕ) → Cells shape cells → (nodes₃ : List Node) (l : Link)
          → Makes k shape nodes₂ (b ∷ a ∷ []) nodes₃ (combined f (page nodes₂ 0 shape a) (page nodes₂ 0 shape b)) (Some l)
          → walk nodes₃ 0 cells l ≡ f (d (number shape cells)) (e (number shape cells))
      third_decides d e pd qe cells inside nodes₃ l third =
          let n : ℕ = number shape cells in
          let below : n < grid shape = number-below shape cells inside in
          let lp : n < length p = subst (λ (m : ℕ). n < m) (sym (ap length pd ∙ length_decisions d (grid shape) 0)) below in
          let lq : n < length q = subst (λ (m : ℕ). n < m) (sym (ap length qe ∙ length_decisions e (grid shape) 0)) below in
          let at : 0 + n ≡ n = omega arith in
          sym (page-at nodes₃ 0 shape l cells inside)
          ∙ ap (λ (r : List ℕ). get_or r n 0) (third.root_or_lack.denotes_the_page ∙ both_combined)
          ∙ get_d_combined f p q n lp lq
          ∙ ap₂ f (ap (λ (r : List ℕ). get_or r n 0) pd ∙ decision-at d (grid shape) 0 n below ∙ ap d at) (ap (λ (r : List ℕ). get_or r n 0) qe ∙ decision-at e (grid shape) 0 n below ∙ ap e at)
