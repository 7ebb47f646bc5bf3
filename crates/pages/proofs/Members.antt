-- Members of lists, by a test: in lists put together, in runs, in images.
use Rattle.std.proofs.Common.{◌≡◌, ℕ, zero, suc, ◌<◌, Bool, true, false, ◌||◌, ◌⊎◌, List, [], ◌∷◌, ◌++◌, map, sym, refl, subst, inl, inr, ⊎_elim, arith}
use Rattle.std.specs.List.{AllByRecursion}
use Rattle.std.proofs.ByRecursion.{All-weaker}
use Rattle.std.proofs.lemmas.Bool.{both_ways, or_cases, or_left, or_right}
use Rattle.pages.specs.Pages.{runs}
use Rattle.pages.specs.Parts.{has}

module _ {X : Type 0} (eq : X → X → Bool) where
  -- a member has what all members have, for the test finds it only where it is
  pub all_member : (P : X → Type 0) → ((x y : X) → eq x y ≡ true → x ≡ y) → (x : X) (xs : List X) → has eq x xs ≡ true → AllByRecursion P xs → P x
  all_member P law x [] h a = absurd (both_ways false refl h)
  all_member P law x (y ∷ ys) h a = ⊎_elim (λ t. subst P (sym (law x y t)) a.0) (λ t. all_member P law x ys t a.1) (or_cases (eq x y) (has eq x ys) h)

  -- a member of the first of two lists is one of both together
  pub has_left : (x : X) (xs ys : List X) → has eq x xs ≡ true → has eq x (xs ++ ys) ≡ true
  has_left x [] ys h = absurd (both_ways false refl h)
  has_left x (z ∷ xs) ys h = ⊎_elim (λ t. or_left (eq x z) _ t) (λ t. or_right (eq x z) (has eq x (xs ++ ys)) (has_left x xs ys t)) (or_cases (eq x z) (has eq x xs) h)

  -- a member of the second of two lists is one of both together
  pub has_right : (x : X) (xs ys : List X) → has eq x ys ≡ true → has eq x (xs ++ ys) ≡ true
  has_right x [] ys h = h
  has_right x (z ∷ xs) ys h = or_right (eq x z) (has eq x (xs ++ ys)) (has_right x xs ys h)

  -- a member of two lists together is one of the first or of the second
  pub has_cases : (x : X) (xs ys : List X) → has eq x (xs ++ ys) ≡ true → (has eq x xs ≡ true) ⊎ (has eq x ys ≡ true)
  has_cases x [] ys h = inr h
  has_cases x (z ∷ xs) ys h =
      ⊎_elim (λ t. inl (or_left (eq x z) (has eq x xs) t)) (λ t. ⊎_elim (λ i. inl (or_right (eq x z) (has eq x xs) i)) inr (has_cases x xs ys t))
      (or_cases (eq x z) (has eq x (xs ++ ys)) h)

  -- a member of one run is a member of all runs together
  pub has-runs : (x : X) (n : ℕ) (f : ℕ → List X) (c : ℕ) → c < n → has eq x (f c) ≡ true → has eq x (runs n f) ≡ true
  has-runs x zero f c l h = absurd (omega arith)
  has-runs x (suc n) f zero l h = has_left x (f 0) (runs n (λ c. f (suc c))) h
  has-runs x (suc n) f (suc c) l h = has_right x (f 0) (runs n (λ c. f (suc c))) (has-runs x n (λ c. f (suc c)) c (omega arith) h)

  -- a member of all runs together is a member of one
  pub from-runs : (x : X) (n : ℕ) (f : ℕ → List X) → has eq x (runs n f) ≡ true → (c : ℕ) × (c < n) × (has eq x (f c) ≡ true)
  from-runs x zero f h = absurd (both_ways false refl h)
  from-runs x (suc n) f h =
      ⊎_elim (λ t. (0, omega arith, t)) (λ t. let i = from-runs x n (λ c. f (suc c)) t in let l = i.1 in (suc i.0, omega arith, i.2))
      (has_cases x (f 0) (runs n (λ c. f (suc c))) h)

-- each element is a member, for the test holds of it and itself
pub all_members : {X : Type 0} (eq : X → X → Bool) → ((x : X) → eq x x ≡ true) → (xs : List X) → AllByRecursion (λ x. has eq x xs ≡ true) xs
all_members eq law [] = tt
all_members eq law (x ∷ xs) = (
  or_left (eq x x) (has eq x xs) (law x),
  All-weaker (λ y. has eq y xs ≡ true) (λ y. (eq y x || has eq y xs) ≡ true) (λ y h. or_right (eq y x) (has eq y xs) h) xs (all_members eq law xs),
)

-- the image of a member is a member of the image
pub has_image : {X Y : Type 0} (eq : X → X → Bool) (eq' : Y → Y → Bool) → ((x y : X) → eq x y ≡ true → x ≡ y) → ((y : Y) → eq' y y ≡ true) → (f : X → Y) (x : X) (xs : List X) → has eq x xs ≡ true
    → has eq' (f x) (map f xs) ≡ true
has_image eq eq' law law' f x [] h = absurd (both_ways false refl h)
has_image eq eq' law law' f x (y ∷ ys) h =
    ⊎_elim (λ t. or_left (eq' (f x) (f y)) (has eq' (f x) (map f ys)) (subst (λ z. eq' (f x) (f z) ≡ true) (law x y t) (law' (f x))))
    (λ t. or_right (eq' (f x) (f y)) (has eq' (f x) (map f ys)) (has_image eq eq' law law' f x ys t)) (or_cases (eq x y) (has eq x ys) h)

-- a member of an image is the image of a member
pub from-map : {X Y : Type 0} (eq : Y → Y → Bool) → ((x y : Y) → eq x y ≡ true → x ≡ y) → (P : X → Type 0) (f : X → Y) (q : Y) (xs : List X) → AllByRecursion P xs → has eq q (map f xs) ≡ true
    → (r : X) × P r × (f r ≡ q)
from-map eq law P f q [] a h = absurd (both_ways false refl h)
from-map eq law P f q (x ∷ xs) a h =
    ⊎_elim (λ t. (x, a.0, sym (law q (f x) t))) (λ t. from-map eq law P f q xs a.1 t) (or_cases (eq q (f x)) (has eq q (map f xs)) h)
