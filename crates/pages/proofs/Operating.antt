-- Pages by cells, and operators at each grid number.
use Rattle.std.proofs.Common.{◌≡◌, ℕ, zero, suc, ◌+◌, ◌*◌, ◌<◌, List, [], ◌∷◌, ◌++◌, map, length, get_or, take, drop, sym, refl, ap, ◌∙◌, subst, arith}
use Rattle.std.proofs.lemmas.List.{length-map, get_or-map, take-map, drop-map, get_or-take, get_or-drop, ext_get_or}
use Rattle.vocabulary.specs.Grid.{grid, number, cells_at, Cells}
use Rattle.vocabulary.proofs.Gridded.{number-below, cells_below, number_of_cells}
use Rattle.pages.specs.Pages.{runs, chunk, paged, Front, PagesAreEqualWhereTheyDecideAlike, WhatIsLeftDecidesAsThePage, PagesAreMadeByCells}
use Rattle.pages.specs.Operators.{combined, OnTwoPages, OnOnePage, OperatorsActOnDecisions}
use Rattle.pages.proofs.Deciding.{decides-equal}
use Rattle.pages.proofs.Runs.{length_runs, runs_same, map_runs, get_d_runs}

-- ---- what is left
-- a chunk decides as the page does g times its number further on
pub get_d_chunk : (g : ℕ) (p : List ℕ) (c i : ℕ) → i < g → get_or (chunk g p c) i 0 ≡ get_or p (c * g + i) 0
get_d_chunk g p c i l = get_or-take g (drop (c * g) p) i 0 l ∙ get_or-drop (c * g) p i 0

-- cells in front of cells of the rest are cells of the shape
front_cells : (shape front cells : List ℕ) → Front shape front → Cells (drop (length front) shape) cells → Cells shape (front ++ cells)
front_cells shape [] cells f h = h
front_cells [] (c ∷ cs) cells f h = absurd f
front_cells (n ∷ ns) (c ∷ cs) cells f h = (f.0, front_cells ns cs cells f.1 h)

-- by induction on the cells that are fixed, one chunk at a time
pub left-decides : WhatIsLeftDecidesAsThePage
left-decides shape p [] cells f h = refl
left-decides [] p (c ∷ cs) cells f h = absurd f
left-decides (n ∷ ns) p (c ∷ cs) cells f h =
    left-decides ns (chunk (grid ns) p c) cs cells f.1 h
    ∙ get_d_chunk (grid ns) p c (number ns (cs ++ cells)) (number-below ns (cs ++ cells) (front_cells ns cs cells f.1 h))

-- ---- equal pages
-- each grid number is that of some cells, so pages that agree on cells agree at each number
pub pages_are_equal : PagesAreEqualWhereTheyDecideAlike
pages_are_equal shape p q =
    record {
      test_decides_equality = decides-equal p q;
      alike_for_all_cells =
          λ l m h.
          ext_get_or 0 p q (l ∙ sym m)
          (λ i b.
          let c : i < grid shape = subst (λ (n : ℕ). i < n) l b in
          let e = number_of_cells shape i c in
          subst (λ (g : ℕ). get_or p g 0 ≡ get_or q g 0) e (h (cells_at shape i) (cells_below shape i c)));
    }

-- ---- pages by cells
-- each cell of the first attribute has a page of the rest
pub length-paged : (ns : List ℕ) (f : List ℕ → ℕ) → length (paged ns f) ≡ grid ns
length-paged [] f = refl
length-paged (n ∷ ns) f = length_runs n (grid ns) (λ c. paged ns (λ cs. f (c ∷ cs))) (λ c. length-paged ns (λ cs. f (c ∷ cs)))

-- a page by cells has at the number of cells the decision of those cells
pub get_d_paged : (ns : List ℕ) (f : List ℕ → ℕ) (cells : List ℕ) → Cells ns cells → get_or (paged ns f) (number ns cells) 0 ≡ f cells
get_d_paged [] f [] h = refl
get_d_paged [] f (c ∷ cs) h = absurd h
get_d_paged (n ∷ ns) f [] h = absurd h
get_d_paged (n ∷ ns) f (c ∷ cs) h =
    get_d_runs n (grid ns) (λ c. paged ns (λ cs. f (c ∷ cs))) (λ c. length-paged ns (λ cs. f (c ∷ cs))) c (number ns cs) h.0 (number-below ns cs h.1)
    ∙ get_d_paged ns (λ cs. f (c ∷ cs)) cs h.1

-- decisions that agree on cells of the shape make one page
pub paged-same : (ns : List ℕ) (f g : List ℕ → ℕ) → ((cells : List ℕ) → Cells ns cells → f cells ≡ g cells) → paged ns f ≡ paged ns g
paged-same [] f g h = ap {B = List ℕ} (λ d. d ∷ []) (h [] tt)
paged-same (n ∷ ns) f g h =
    runs_same n (λ c. paged ns (λ cs. f (c ∷ cs))) (λ c. paged ns (λ cs. g (c ∷ cs))) (λ c l. paged-same ns (λ cs. f (c ∷ cs)) (λ cs. g (c ∷ cs)) (λ cs i. h (c ∷ cs) (l, i)))

-- length and decisions together
pub made_by_cells : PagesAreMadeByCells
made_by_cells shape f = record { as_long_as_the_grid = length-paged shape f; decides_by_the_cells = get_d_paged shape f }

-- ---- operators
module _ (f : ℕ → ℕ → ℕ) where
  -- pages of one length are combined piece by piece
  pub combined-append : (p q p' q' : List ℕ) → length p ≡ length q → combined f (p ++ p') (q ++ q') ≡ combined f p q ++ combined f p' q'
  combined-append [] [] p' q' h = refl
  combined-append [] (y ∷ q) p' q' h = absurd (omega arith)
  combined-append (x ∷ p) [] p' q' h = absurd (omega arith)
  combined-append (x ∷ p) (y ∷ q) p' q' h = ap {B = List ℕ} (λ r. f x y ∷ r) (combined-append p q p' q' (omega arith))

  -- and so run by run
  pub combined-runs : (n : ℕ) (a b : ℕ → List ℕ) → ((c : ℕ) → length (a c) ≡ length (b c)) → combined f (runs n a) (runs n b) ≡ runs n (λ c. combined f (a c) (b c))
  combined-runs zero a b h = refl
  combined-runs (suc n) a b h =
      combined-append (a 0) (b 0) (runs n (λ c. a (suc c))) (runs n (λ c. b (suc c))) (h 0)
      ∙ ap (λ r. combined f (a 0) (b 0) ++ r) (combined-runs n (λ c. a (suc c)) (λ c. b (suc c)) (λ c. h (suc c)))

  -- what is combined first may be taken first
  combined-take : (n : ℕ) (p q : List ℕ) → take n (combined f p q) ≡ combined f (take n p) (take n q)
  combined-take zero p q = refl
  combined-take (suc n) [] q = refl
  combined-take (suc n) (x ∷ p) [] = refl
  combined-take (suc n) (x ∷ p) (y ∷ q) = ap {B = List ℕ} (λ r. f x y ∷ r) (combined-take n p q)

  -- nothing is combined with an empty page
  combined_nil : (p : List ℕ) → combined f p [] ≡ []
  combined_nil [] = refl
  combined_nil (x ∷ p) = refl

  -- what is combined last may be left out first
  combined-drop : (n : ℕ) (p q : List ℕ) → drop n (combined f p q) ≡ combined f (drop n p) (drop n q)
  combined-drop zero p q = refl
  combined-drop (suc n) [] q = refl
  combined-drop (suc n) (x ∷ p) [] = sym (combined_nil (drop n p))
  combined-drop (suc n) (x ∷ p) (y ∷ q) = combined-drop n p q

  -- so a chunk of the result is the result of chunks
  pub combined-chunk : (g : ℕ) (p q : List ℕ) (c : ℕ) → chunk g (combined f p q) c ≡ combined f (chunk g p c) (chunk g q c)
  combined-chunk g p q c = ap (take g) (combined-drop (c * g) p q) ∙ combined-take g (drop (c * g) p) (drop (c * g) q)

  -- pages by cells are combined cells by cells, by induction on the shape
  pub combined-paged : (ns : List ℕ) (g h : List ℕ → ℕ) → combined f (paged ns g) (paged ns h) ≡ paged ns (λ cells. f (g cells) (h cells))
  combined-paged [] g h = refl
  combined-paged (n ∷ ns) g h =
      combined-runs n (λ c. paged ns (λ cs. g (c ∷ cs))) (λ c. paged ns (λ cs. h (c ∷ cs))) (λ c. length-paged ns (λ cs. g (c ∷ cs)) ∙ sym (length-paged ns (λ cs. h (c ∷ cs))))
      ∙ runs_same n (λ c. combined f (paged ns (λ cs. g (c ∷ cs))) (paged ns (λ cs. h (c ∷ cs)))) (λ c. paged ns (λ cs. f (g (c ∷ cs)) (h (c ∷ cs))))
      (λ c i. combined-paged ns (λ cs. g (c ∷ cs)) (λ cs. h (c ∷ cs)))

  -- as long as both, by induction on them
  pub length-combined : (p q : List ℕ) → length p ≡ length q → length (combined f p q) ≡ length p
  length-combined [] q h = refl
  length-combined (x ∷ p) [] h = absurd (omega arith)
  length-combined (x ∷ p) (y ∷ q) h = ap suc (length-combined p q (omega arith))

  -- the operator at one number, by induction on the pages
  pub get_d_combined : (p q : List ℕ) (g : ℕ) → g < length p → g < length q → get_or (combined f p q) g 0 ≡ f (get_or p g 0) (get_or q g 0)
  get_d_combined [] q g h i = absurd (omega arith)
  get_d_combined (x ∷ p) [] g h i = absurd (omega arith)
  get_d_combined (x ∷ p) (y ∷ q) zero h i = refl
  get_d_combined (x ∷ p) (y ∷ q) (suc g) h i = get_d_combined p q g (omega arith) (omega arith)

  -- the four facts together
  pub on_two_pages : OnTwoPages f
  on_two_pages = record { as_long_as_the_pages = length-combined; at_each_number = get_d_combined; in_each_chunk = combined-chunk; for_all_cells = combined-paged }

module _ (f : ℕ → ℕ) where
  -- a chunk is taken of each decision alike
  pub map-chunk : (g : ℕ) (p : List ℕ) (c : ℕ) → chunk g (map f p) c ≡ map f (chunk g p c)
  map-chunk g p c = ap (take g) (drop-map f (c * g) p) ∙ take-map f g (drop (c * g) p)

  -- cell by cell, by induction on the shape
  pub map-paged : (ns : List ℕ) (a : List ℕ → ℕ) → map f (paged ns a) ≡ paged ns (λ cells. f (a cells))
  map-paged [] a = refl
  map-paged (n ∷ ns) a =
      map_runs f n (λ c. paged ns (λ cs. a (c ∷ cs)))
      ∙ runs_same n (λ c. map f (paged ns (λ cs. a (c ∷ cs)))) (λ c. paged ns (λ cs. f (a (c ∷ cs)))) (λ c i. map-paged ns (λ cs. a (c ∷ cs)))

  -- the four facts together, of one page
  pub on_one_page : OnOnePage f
  on_one_page =
      record { as_long_as_the_page = λ p. length-map p f; at_each_number = λ p g h. get_or-map f p g 0 0 h; in_each_chunk = map-chunk; for_all_cells = map-paged }

-- both together
pub operators_act : OperatorsActOnDecisions
operators_act = record { on_two_pages = on_two_pages; on_one_page = on_one_page }
