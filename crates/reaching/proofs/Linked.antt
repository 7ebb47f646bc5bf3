-- Bytes that links have marked.
use Rattle.std.proofs.Common.{◌≡◌, ℕ, zero, suc, ◌+◌, ◌<◌, ◌≤◌, ◌≢◌, ◌⊎◌, List, [], ◌∷◌, ◌++◌, length, get_or, set, Some, None, Option, sym, refl, ap, ◌∙◌, subst, inl, inr, ⊎_elim, add-one, arith, length-append, length-set, get_or-set_other, get_or-set_same}
use Rattle.std.proofs.lemmas.List.{get_or_past, get_or_append_left, get_or_push}
use Rattle.std.proofs.lemmas.Bool.{cases_eq, cases_lt}
use Rattle.marking.specs.Marks.{Marked}
use Rattle.diagram.specs.declared.Node.{Node}
use Rattle.diagram.specs.declared.Link.{Link}
use Rattle.diagram.specs.declared.Link.TheVariants.{Decision, Record}
use Rattle.diagram.specs.Diagram.{link}
use Rattle.reaching.specs.Roots.{roots_in, marked_by, marked_by_all, first_links}

-- a marked record has a byte, for past the bytes there is no 1
pub marked_below : (marks : List ℕ) (r : ℕ) → Marked marks r → r < length marks
marked_below marks r m = ⊎_elim (λ (l : r < length marks). l) (λ (l : length marks ≤ r). let z = get_or_past marks r 0 l in absurd (omega arith)) (cases_lt r (length marks))

-- ---- one link
one_length : (l : Link) (marks : List ℕ) → length (marked_by l marks) ≡ length marks
one_length (Decision d) marks = refl
one_length (Record r) marks = length-set marks r 1

one_stays : (l : Link) (marks : List ℕ) (s : ℕ) → Marked marks s → Marked (marked_by l marks) s
one_stays (Decision d) marks s m = m
one_stays (Record r) marks s m =
    ⊎_elim (λ (e : s ≡ r). subst (λ (n : ℕ). Marked (set marks r 1) n) (sym e) (get_or-set_same marks r 1 0 (subst (λ (n : ℕ). n < length marks) e (marked_below marks s m))))
    (λ (d : s ≢ r). get_or-set_other marks r s 1 0 d ∙ m)
    (cases_eq s r)

one_new : (l : Link) (marks : List ℕ) (s : ℕ) → Marked (marked_by l marks) s → Marked marks s ⊎ (l ≡ Record s)
one_new (Decision d) marks s m = inl m
one_new (Record r) marks s m = ⊎_elim (λ (e : s ≡ r). inr (ap Record (sym e))) (λ (d : s ≢ r). inl (sym (get_or-set_other marks r s 1 0 d) ∙ m)) (cases_eq s r)

-- ---- all links
pub length_marked : (ls : List Link) (marks : List ℕ) → length (marked_by_all ls marks) ≡ length marks
length_marked [] marks = refl
length_marked (l ∷ ls) marks = length_marked ls (marked_by l marks) ∙ one_length l marks

-- what is marked stays so
pub marked_stays : (ls : List Link) (marks : List ℕ) (s : ℕ) → Marked marks s → Marked (marked_by_all ls marks) s
marked_stays [] marks s m = m
marked_stays (l ∷ ls) marks s m = marked_stays ls (marked_by l marks) s (one_stays l marks s m)

-- a record is among the links
abbrev pub Among : ℕ → List Link → Type 0
Among s ls = (i : ℕ) × (i < length ls) × (get_or ls i (Decision 0) ≡ Record s)

-- what is marked was so before, or is the record of a link
pub marked_new : (ls : List Link) (marks : List ℕ) (s : ℕ) → Marked (marked_by_all ls marks) s → Marked marks s ⊎ Among s ls
marked_new [] marks s m = inl m
marked_new (l ∷ ls) marks s m =
    ⊎_elim (λ o. ⊎_elim (λ p. inl p) (λ (e : l ≡ Record s). inr (0, omega arith, e)) (one_new l marks s o))
    (λ a. inr (suc a.0, omega (arith, a.1), a.2))
    (marked_new ls (marked_by l marks) s m)

-- the record of each link is marked, if it has a byte
pub marks_each : (ls : List Link) (marks : List ℕ) (s : ℕ) (i : ℕ) → i < length ls → get_or ls i (Decision 0) ≡ Record s → s < length marks → Marked (marked_by_all ls marks) s
marks_each [] marks s i h e b = absurd (omega arith)
marks_each (l ∷ ls) marks s zero h e b = marked_stays ls (marked_by l marks) s (subst (λ k. Marked (marked_by k marks) s) (sym e) (get_or-set_same marks s 1 0 b))
marks_each (l ∷ ls) marks s (suc i) h e b = marks_each ls (marked_by l marks) s i (omega arith) e (subst (λ (n : ℕ). s < n) (sym (one_length l marks)) b)

-- one link more comes last
pub marked_push : (ls : List Link) (l : Link) (marks : List ℕ) → marked_by_all (ls ++ l ∷ []) marks ≡ marked_by l (marked_by_all ls marks)
marked_push [] l marks = refl
marked_push (k ∷ ls) l marks = marked_push ls l (marked_by k marks)

-- one root more, which is there or not
pub roots_more : (o : Option Link) (os : List (Option Link)) (marks : List ℕ) → marked_by_all (roots_in (o ∷ os)) marks ≡ marked_by_all (roots_in os) (marked_by_all (roots_in (o ∷ [])) marks)
roots_more None os marks = refl
roots_more (Some l) os marks = refl

-- ---- the first links of a record
pub first_length : (x : Node) (n : ℕ) → length (first_links x n) ≡ n
first_length x zero = refl
first_length x (suc n) = length-append (first_links x n) (link x n ∷ []) ∙ ap (λ (m : ℕ). m + 1) (first_length x n) ∙ add-one n

pub first_at : (x : Node) (n c : ℕ) → c < n → get_or (first_links x n) c (Decision 0) ≡ link x c
first_at x zero c h = absurd (omega arith)
first_at x (suc n) c h =
    ⊎_elim (λ (e : c ≡ n). get_or_push (first_links x n) (link x n) (Decision 0) c (first_length x n ∙ sym e) ∙ ap (link x) (sym e))
    (λ (d : c ≢ n).
    let l : c < n = omega arith in
    get_or_append_left (first_links x n) (link x n ∷ []) (Decision 0) c (subst (λ (m : ℕ). c < m) (sym (first_length x n)) l) ∙ first_at x n c l)
    (cases_eq c n)

-- one cell more
pub first_more : (x : Node) (n : ℕ) (marks : List ℕ) → marked_by_all (first_links x (n + 1)) marks ≡ marked_by (link x n) (marked_by_all (first_links x n) marks)
first_more x n marks = ap (λ (m : ℕ). marked_by_all (first_links x m) marks) (add-one n) ∙ marked_push (first_links x n) (link x n) marks
