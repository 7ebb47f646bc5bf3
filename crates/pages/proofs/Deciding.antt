-- The tests on pages and parts decide what they are named for.
use Rattle.std.proofs.Common.{◌≡◌, ℕ, zero, suc, ◌<◌, true, false, not, ◌&&◌, ◌||◌, eqb, ◌≢◌, List, [], ◌∷◌, Decides, refl, ap, subst, ap₂, ⊎_elim, arith}
use Rattle.std.proofs.lemmas.Bool.{both_ways, and_parts, or_parts, or_cases, not-false, not-true, eqb-true}
use Rattle.std.proofs.lemmas.Bool.Decides.{Decides-eqb, Decides-and, Decides-like}
use Rattle.pages.specs.Pages.{equal}
use Rattle.pages.specs.Parts.{Part, same, differs}

-- what passes for equal is equal, decision by decision
pub equal-same : (p q : List ℕ) → equal p q ≡ true → p ≡ q
equal-same [] [] e = refl
equal-same [] (y ∷ q) e = absurd (both_ways false refl e)
equal-same (x ∷ p) [] e = absurd (both_ways false refl e)
equal-same (x ∷ p) (y ∷ q) e =
    let t = and_parts (eqb x y) (equal p q) e in
    ap₂ ◌∷◌ (eqb-true x y t.0) (equal-same p q t.1)

-- a page passes for equal to itself
pub equal_self : (p : List ℕ) → equal p p ≡ true
equal_self [] = refl
equal_self (x ∷ p) = ap₂ ◌&&◌ ((Decides-eqb x x).1 refl) (equal_self p)

-- so the test decides whether pages are equal
pub decides-equal : (p q : List ℕ) → Decides (equal p q) (p ≡ q)
decides-equal p q = (equal-same p q, λ e. subst (λ r. equal p r ≡ true) e (equal_self p))

-- and that of parts whether level and decisions are
pub decides-same : (a b : Part) → Decides (same a b) (a ≡ b)
decides-same a b =
    Decides-like (same a b) (λ h i. (h.0 i, h.1 i)) (λ e. (ap (λ (t : Part). t.0) e, ap (λ (t : Part). t.1) e))
    (Decides-and (eqb a.0 b.0) (equal a.1 b.1) (Decides-eqb a.0 b.0) (decides-equal a.1 b.1))

-- no difference is found among pages that are all p, for each passes for equal
pub differs_none : (n : ℕ) (f : ℕ → List ℕ) (p : List ℕ) → ((c : ℕ) → c < n → f c ≡ p) → differs n f p ≡ false
differs_none zero f p h = refl
differs_none (suc n) f p h =
    ap₂ ◌||◌ (ap not ((decides-equal (f 0) p).1 (h 0 (omega arith)))) (differs_none n (λ c. f (suc c)) p (λ c l. h (suc c) (omega arith)))

-- where none is found each page is p
pub differs_false : (n : ℕ) (f : ℕ → List ℕ) (p : List ℕ) → differs n f p ≡ false → (c : ℕ) → c < n → f c ≡ p
differs_false zero f p e c l = absurd (omega arith)
differs_false (suc n) f p e zero l = equal-same (f 0) p (not-false (equal (f 0) p) (or_parts (not (equal (f 0) p)) (differs n (λ c. f (suc c)) p) e).0)
differs_false (suc n) f p e (suc c) l =
    differs_false n (λ c. f (suc c)) p (or_parts (not (equal (f 0) p)) (differs n (λ c. f (suc c)) p) e).1 c (omega arith)

-- where one is found, the first page that fails the test is another one
pub differs_true : (n : ℕ) (f : ℕ → List ℕ) (p : List ℕ) → differs n f p ≡ true → (c : ℕ) × (c < n) × (f c ≢ p)
differs_true zero f p h = absurd (both_ways false refl h)
differs_true (suc n) f p h =
    ⊎_elim (λ t. (0, omega arith, λ e. both_ways (equal (f 0) p) (not-true (equal (f 0) p) t) ((decides-equal (f 0) p).1 e)))
    (λ t. let i = differs_true n (λ c. f (suc c)) p t in let l = i.1 in (suc i.0, omega arith, i.2)) (or_cases (not (equal (f 0) p)) (differs n (λ c. f (suc c)) p) h)
