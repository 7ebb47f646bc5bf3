-- Spans of a source's grid numbers are places.
use Rattle.std.proofs.Common.{◌≡◌, ℕ, zero, suc, ◌+◌, ◌-◌, ◌*◌, ◌^◌, ◌<◌, ◌≤◌, List, [], ◌∷◌, length, get_or, take, drop, sym, refl, ap, ◌∙◌, subst, ap₂, mul-le-mul_right, suc-mul, arith, drop_of_length-le, drop-cons}
use Rattle.vocabulary.specs.Grid.{grid}
use Rattle.pages.specs.Pages.{chunk}
use Rattle.policy.specs.Meaning.{Meaning}
use Rattle.marking.specs.Marks.{Marked}
use Rattle.diagram.specs.declared.Node.{Node}
use Rattle.diagram.specs.declared.Link.TheVariants.{Decision}
use Rattle.diagram.specs.Diagram.{page}
use Rattle.diagram.specs.Sound.{Sound}
use Rattle.places.specs.Places.{KeepWhileMemoryGrows, FillTheGrid, SamePlaces, LeadsTo, SettledBy, SaysTheSameUntil}
use Rattle.making.specs.declared.sourced.Span.{Span}
use Rattle.making.specs.Spans.{decisions_at, span_stands, span_says}

-- ---- decisions one after the other
-- as many as are asked for
pub length_decisions : (f : ℕ → ℕ) (n a : ℕ) → length (decisions_at f n a) ≡ n
length_decisions f zero a = refl
length_decisions f (suc n) a = ap suc (length_decisions f n (suc a))

-- without the first m the others begin m further on
drop_decisions : (f : ℕ → ℕ) (m n a : ℕ) → drop m (decisions_at f (m + n) a) ≡ decisions_at f n (a + m)
drop_decisions f zero n a =
    let e : 0 + n ≡ n = omega arith in
    let d : a ≡ a + 0 = omega arith in
    ap₂ (decisions_at f) e d
drop_decisions f (suc m) n a =
    let e : suc m + n ≡ suc (m + n) = omega arith in
    let d : suc a + m ≡ a + suc m = omega arith in
    ap (λ (x : ℕ). drop (suc m) (decisions_at f x a)) e ∙ drop_decisions f m n (suc a) ∙ ap (decisions_at f n) d

-- the first m of them
take_decisions : (f : ℕ → ℕ) (m n a : ℕ) → take m (decisions_at f (m + n) a) ≡ decisions_at f m a
take_decisions f zero n a = refl
take_decisions f (suc m) n a =
    let e : suc m + n ≡ suc (m + n) = omega arith in
    ap (λ (x : ℕ). take (suc m) (decisions_at f x a)) e ∙ ap (λ (r : List ℕ). f a ∷ r) (take_decisions f m n (suc a))

-- so a chunk of them begins c times its length further on
chunk_decisions : (f : ℕ → ℕ) (n g a c : ℕ) → c < n → chunk g (decisions_at f (n * g) a) c ≡ decisions_at f g (a + c * g)
chunk_decisions f n g a c l =
    let b : suc c * g ≤ n * g = mul-le-mul_right g l in
    let r : ℕ = n * g - suc c * g in
    let e : n * g ≡ c * g + (g + r) = omega (arith, suc-mul c g) in
    ap (λ (x : ℕ). take g (drop (c * g) (decisions_at f x a))) e ∙ ap (take g) (drop_decisions f (c * g) (g + r) a) ∙ take_decisions f g r (a + c * g)

-- ---- spans
module _ (m : Meaning) where
  -- spans know nothing of node memory
  pub spans_keep : (k : ℕ) (shape : List ℕ) → KeepWhileMemoryGrows (span_stands m) (span_says m) k shape
  spans_keep k shape nodes marks nodes' marks' j p sound grown st = (st, refl)

  -- a span says as many decisions as are asked for
  pub spans_fill : (k : ℕ) (shape : List ℕ) → FillTheGrid (span_stands m) (span_says m) k shape
  spans_fill k shape nodes marks j p st = length_decisions m.decision (grid (drop j shape)) p.first

  module _ (k : ℕ) (shape : List ℕ) (nodes : List Node) (marks : List ℕ) (j : ℕ) (p : Span) where
    -- a cell has its share of the grid numbers, so many shares further on
    pub spans_lead : (n c : ℕ) (q : Span) → n ≡ get_or shape j 0 → ((each : ℕ) → 0 < n → p.count ≡ n * each → q.count ≡ each)
        → (p.first + c * q.count < 2 ^ 32 → q.first ≡ p.first + c * q.count) → LeadsTo (span_stands m) (span_says m) k shape nodes marks j p c q
    spans_lead n c q cells shared along sound st low small =
        let g : ℕ = grid (drop (suc j) shape) in
        let whole : grid (drop j shape) ≡ n * g = ap grid (drop-cons shape j 0 low) ∙ ap (λ (i : ℕ). i * g) (sym cells) in
        let below : c < n = omega arith in
        let count : q.count ≡ g = shared g (omega arith) (st.numbers_of_what_is_left ∙ whole) in
        let b : suc c * g ≤ n * g = mul-le-mul_right g below in
        let s : suc c * g ≡ g + c * g = omega (arith, suc-mul c g) in
        let t : c * q.count ≡ c * g = ap (λ (x : ℕ). c * x) count in
        let pc = st.numbers_of_what_is_left in
        let pb = st.numbers_are_small in
        let first : q.first ≡ p.first + c * q.count = along (omega arith) in (
          record { numbers_of_what_is_left = count; numbers_are_small = omega arith; decisions_are_codes = st.decisions_are_codes },
          ap (decisions_at m.decision g) (first ∙ ap (λ (x : ℕ). p.first + x) t)
              ∙ sym (ap (λ (i : ℕ). chunk g (decisions_at m.decision i p.first) c) whole ∙ chunk_decisions m.decision n g p.first c below),
        )

    -- a span branches where it stands, with no level between
    pub spans_branch_here : Sound k shape nodes (Marked marks) → span_stands m k shape nodes marks j p → SaysTheSameUntil (span_stands m) (span_says m) k shape nodes marks j p j
    spans_branch_here sound st =
        record {
          stands_at_each = λ i a b. let e : j ≡ i = omega arith in subst (λ (i : ℕ). span_stands m k shape nodes marks i p) e st;
          same_in_each_cell = λ i a b. absurd (omega arith);
        }

    -- past the last attribute it has one grid number, whose decision settles it
    pub spans_settle : length shape ≤ j → (d : ℕ) → d ≡ m.decision p.first → SettledBy (span_stands m) (span_says m) k shape nodes marks j p (Decision d)
    spans_settle h d e sound st =
        let none : drop j shape ≡ [] = drop_of_length-le shape h in (
          subst (λ (i : ℕ). i < k) (sym e) (st.decisions_are_codes p.first),
          subst (λ s. page nodes j s (Decision d) ≡ decisions_at m.decision (grid s) p.first) (sym none) (ap (λ (i : ℕ). i ∷ []) e),
        )

-- where the meaning stays, the spans stay
pub same_spans : (m n : Meaning) → n ≡ m → SamePlaces (span_stands m) (span_says m) (span_stands n) (span_says n)
same_spans m n e =
    record {
      still_stand = λ k shape nodes marks j p st. subst (λ (i : Meaning). span_stands i k shape nodes marks j p) (sym e) st;
      stood_before = λ k shape nodes marks j p st. subst (λ (i : Meaning). span_stands i k shape nodes marks j p) e st;
      say_the_same = λ shape nodes j p. ap (λ (i : Meaning). span_says i shape nodes j p) e;
    }
