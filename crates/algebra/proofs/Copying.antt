-- A copy that is filled entry by entry means the tables that it was filled from.
use Rattle.std.proofs.Common.{◌≡◌, ℕ, ◌+◌, ◌*◌, ◌/◌, ◌%◌, ◌<◌, ◌≤◌, List, get_or, sym, ap, ◌∙◌, subst, ⊎_elim, arith, eq-or-lt_of_le, le-ltb, lt-ltb, zero, suc}
use denote.Param.Members.{Mut}
use Rattle.std.specs.Fn.{Called}
use Rattle.std.specs.Array.{IsFromFnResult, IsFromFnResultFrom}
use Rattle.std.proofs.lemmas.Bool.{cases_lt}
use Rattle.algebra.specs.Laws.{ShortCutLaws}
use Rattle.algebra.specs.Layout.{entry, laid_out}
use Rattle.algebra.specs.Tables.{Tables, square, row}

-- Calls at the indices from i on made an array, and each left the closure as it was: the array holds what they answered.
answered_from : {F : Type 0} (g : Mut F (ℕ × Unit {0}) ℕ) (f : F) (answer : ℕ → ℕ) → ((i v : ℕ) (f' : F) → Called g f (i, tt) v f' → (v ≡ answer i) × (f' ≡ f)) → (xs : List ℕ) (n i : ℕ) → IsFromFnResultFrom g f xs i n → (k : ℕ) → i ≤ k → k < i + n → get_or xs k 0 ≡ answer k
answered_from g f answer one xs zero i calls k from below = absurd (omega arith)
answered_from {F = F} g f answer one xs (suc n) i (f', v, at, call, rest) k from below =
    let called = one i v f' call in
    ⊎_elim (λ (e : i ≡ k). ap (λ m. get_or xs m 0) (sym e) ∙ at.1 0 ∙ called.0 ∙ ap answer e)
    (λ (l : i < k). answered_from g f answer one xs n (i + 1) (subst (λ (h : F). IsFromFnResultFrom g h xs (i + 1) n) called.1 rest) k (omega arith) (omega arith))
    (eq-or-lt_of_le from)

-- The same of the whole array.
pub answered : {F : Type 0} {g : Mut F (ℕ × Unit {0}) ℕ} {f : F} {xs : List ℕ} {n : ℕ} (answer : ℕ → ℕ) → IsFromFnResult g f xs n → ((i v : ℕ) (f' : F) → Called g f (i, tt) v f' → (v ≡ answer i) × (f' ≡ f)) → (i : ℕ) → i < n → get_or xs i 0 ≡ answer i
answered {g = g} {f = f} {xs = xs} {n = n} answer calls one i lt = answered_from g f answer one xs n 0 calls.each i (omega arith) (omega arith)

-- the list holds every row of the table f
abbrev pub Holds : List ℕ → (ℕ → ℕ → ℕ) → Type 0
Holds xs f = (i : ℕ) → i < 256 → get_or xs i 0 ≡ f (i / 16) (i % 16)

-- Below the size the row and the column are quotient and remainder; past it both are 0.
square_agrees : (k : ℕ) (f : ℕ → ℕ → ℕ) → k ≤ 16 → ((a b : ℕ) → k ≤ a → f a b ≡ 0) → ((a b : ℕ) → k ≤ b → f a b ≡ 0) → (xs : List ℕ) → Holds xs f → (a b : ℕ) → square k (entry xs) a b ≡ f a b
square_agrees k f most left right xs holds a b =
    ⊎_elim
    (λ (ha : a < k).
    ⊎_elim
    (λ (hb : b < k).
    let lt : 16 * a + b < 256 = omega arith in
    let quotient : (16 * a + b) / 16 ≡ a = omega arith in
    let remainder : (16 * a + b) % 16 ≡ b = omega arith in
    simp (lt-ltb a k ha, lt-ltb b k hb) (holds (16 * a + b) lt ∙ ap (λ (x : ℕ). f x ((16 * a + b) % 16)) quotient ∙ ap (f a) remainder))
    (λ (hb : k ≤ b). simp (lt-ltb a k ha, le-ltb b k hb) (sym (right a b hb))) (cases_lt b k))
    (λ (ha : k ≤ a). simp (le-ltb a k ha) (sym (left a b ha))) (cases_lt a k)

-- The same of one row.
row_agrees : (k : ℕ) (f : ℕ → ℕ) → k ≤ 16 → ((a : ℕ) → k ≤ a → f a ≡ 0) → (xs : List ℕ) → ((i : ℕ) → i < 16 → get_or xs i 0 ≡ f i) → (a : ℕ) → row k (λ a. get_or xs a 0) a ≡ f a
row_agrees k f most past xs holds a =
    ⊎_elim (λ (ha : a < k). simp (lt-ltb a k ha) (holds a (omega arith))) (λ (ha : k ≤ a). simp (le-ltb a k ha) (sym (past a ha))) (cases_lt a k)

-- Tables that agree at all codes are equal.
same_tables : (s t : Tables) → s.size ≡ t.size → ((a b : ℕ) → s.sum a b ≡ t.sum a b) → ((a b : ℕ) → s.meet a b ≡ t.meet a b) → ((a : ℕ) → s.negation a ≡ t.negation a) → s ≡ t
same_tables s t size sum meet negation =
    λ i. record { size = size i; sum = λ a b. sum a b i; meet = λ a b. meet a b i; negation = λ a. negation a i }

-- The copy has the size of the original, so it agrees with it everywhere.
pub copy_means_the_same : (t : Tables) → ShortCutLaws t → (k : ℕ) (sums meets negations : List ℕ) → k ≡ t.size → Holds sums t.sum → Holds meets t.meet → ((i : ℕ) → i < 16 → get_or negations i 0 ≡ t.negation i) → laid_out k sums meets negations ≡ t
copy_means_the_same t laws k sums meets negations size s m n =
    let most = laws.size_at_most_16 in
    ap (λ (k : ℕ). laid_out k sums meets negations) size ∙ same_tables (laid_out t.size sums meets negations) t (λ _. t.size)
    (square_agrees t.size t.sum most laws.sum_zero_past_size_left laws.sum_zero_past_size_right sums s)
    (square_agrees t.size t.meet most laws.meet_zero_past_size_left laws.meet_zero_past_size_right meets m)
    (row_agrees t.size t.negation most laws.negation_zero_past_size negations n)
