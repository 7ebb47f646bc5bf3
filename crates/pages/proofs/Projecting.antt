-- What a projection keeps.
use Rattle.std.proofs.Common.{◌≡◌, ℕ, zero, suc, ◌<◌, Bool, true, false, cond, ◌&&◌, List, [], ◌∷◌, length, get_or, refl, ap, ◌∙◌, ap₂, arith}
use Rattle.vocabulary.specs.Grid.{number, Cells}
use Rattle.vocabulary.proofs.Gridded.{number-below}
use Rattle.pages.specs.Projection.{has_bit, allowed, kept_by, AlikeBelow, ProjectionKeepsWhatMasksAllow}
use Rattle.pages.proofs.Operating.{length-paged, get_d_paged, paged-same}

-- the masks allow cells whose bits are all set, by induction on the cells
pub all_allowed : (masks cells : List ℕ) → ((i : ℕ) → i < length cells → has_bit (get_or masks i 0) (get_or cells i 0) ≡ true) → allowed masks cells ≡ true
all_allowed [] cells h = refl
all_allowed (m ∷ ms) [] h = refl
all_allowed (m ∷ ms) (c ∷ cs) h = ap₂ ◌&&◌ (h 0 (omega arith)) (all_allowed ms cs (λ i l. h (suc i) (omega arith)))

-- nothing and false is false
and_false : (b : Bool) → (b && false) ≡ false
and_false true = refl
and_false false = refl

-- and none of which a bit is not set
one_missing : (masks cells : List ℕ) (i : ℕ) → i < length cells → i < length masks → has_bit (get_or masks i 0) (get_or cells i 0) ≡ false → allowed masks cells ≡ false
one_missing [] cells i l m e = absurd (omega arith)
one_missing (x ∷ ms) [] i l m e = absurd (omega arith)
one_missing (x ∷ ms) (c ∷ cs) zero l m e = ap (λ b. b && allowed ms cs) e
one_missing (x ∷ ms) (c ∷ cs) (suc i) l m e = ap (λ b. has_bit x c && b) (one_missing ms cs i (omega arith) (omega arith) e) ∙ and_false (has_bit x c)

-- masks that are alike below the counts allow the same cells
allowed_alike : (shape masks masks' cells : List ℕ) → Cells shape cells → length masks' ≡ length masks → ((i : ℕ) → AlikeBelow (get_or shape i 0) (get_or masks i 0) (get_or masks' i 0)) → allowed masks cells ≡ allowed masks' cells
allowed_alike [] [] [] [] h l a = refl
allowed_alike [] [] (y ∷ ys) [] h l a = refl
allowed_alike [] (x ∷ xs) [] [] h l a = refl
allowed_alike [] (x ∷ xs) (y ∷ ys) [] h l a = refl
allowed_alike [] masks masks' (c ∷ cs) h l a = absurd h
allowed_alike (n ∷ ns) masks masks' [] h l a = absurd h
allowed_alike (n ∷ ns) [] [] (c ∷ cs) h l a = refl
allowed_alike (n ∷ ns) [] (y ∷ ys) (c ∷ cs) h l a = absurd (omega arith)
allowed_alike (n ∷ ns) (x ∷ xs) [] (c ∷ cs) h l a = absurd (omega arith)
allowed_alike (n ∷ ns) (x ∷ xs) (y ∷ ys) (c ∷ cs) h l a = ap₂ ◌&&◌ (a 0 c h.0) (allowed_alike ns xs ys cs h.1 (omega arith) (λ i. a (suc i)))

-- each fact by the decision that the page by cells has there
pub projection_keeps : ProjectionKeepsWhatMasksAllow
projection_keeps masks decisions shape p =
    record {
      as_long_as_the_grid = length-paged shape f;
      kept_where_each_bit_is_set = λ cells h a b. get_d_paged shape f cells h ∙ ap₂ (λ x y. cond (x && y) (get_or p (number shape cells) 0) 0) (all_allowed masks cells a) b;
      zero_where_the_bit_of_a_cell_is_not =
          λ cells h i l m e. get_d_paged shape f cells h ∙ ap (λ x. cond (x && has_bit decisions (get_or p (number shape cells) 0)) (get_or p (number shape cells) 0) 0) (one_missing masks cells i l m e);
      zero_where_the_bit_of_the_decision_is_not =
          λ cells h e. get_d_paged shape f cells h ∙ ap (λ x. cond x (get_or p (number shape cells) 0) 0) (ap (λ y. allowed masks cells && y) e ∙ and_false (allowed masks cells));
      no_other_bit_matters =
          λ k masks' decisions' l a b codes.
          paged-same shape f (λ cells. kept_by masks' decisions' cells (get_or p (number shape cells) 0))
          (λ cells h. ap₂ (λ x y. cond (x && y) (get_or p (number shape cells) 0) 0) (allowed_alike shape masks masks' cells h l a) (b (get_or p (number shape cells) 0) (codes (number shape cells) (number-below shape cells h))));
    }
  where
    f : List ℕ → ℕ
    f cells = kept_by masks decisions cells (get_or p (number shape cells) 0)
