-- How many distinct elements lists have.
use Rattle.std.proofs.Common.{◌≡◌, ℕ, zero, suc, ◌<◌, ◌≤◌, Bool, true, false, cond, ◌||◌, eqb, List, [], ◌∷◌, map, Decides, sym, refl, ap, ◌∙◌, subst, ap₂, ⊎_elim, arith}
use Rattle.std.specs.List.{AllByRecursion}
use Rattle.std.proofs.lemmas.Bool.{both_ways, or_parts, or_left, or_right, eq-eqb, ne_eqb, cases_Bool, cases_eq}
use Rattle.std.proofs.lemmas.Bool.Decides.{Decides-eqb}
use Rattle.pages.specs.Parts.{has}
use Rattle.pages.specs.Sizes.{count}

module _ {X : Type 0} (eq : X → X → Bool) where
  -- a list without the elements that the test takes for x
  abbrev remove : X → List X → List X
  remove x [] = []
  remove x (y ∷ ys) = cond (eq x y) (remove x ys) (y ∷ remove x ys)

  module _ (law : (x y : X) → Decides (eq x y) (x ≡ y)) where
    -- the test is symmetric, for it decides equality
    apart_turned : (x y : X) → eq x y ≡ false → eq y x ≡ false
    apart_turned x y h = ⊎_elim (λ t. absurd (both_ways (eq x y) h ((law x y).1 (sym ((law y x).0 t))))) (λ t. t) (cases_Bool (eq y x))

    -- other elements stay members, for only x is taken out
    has-remove : (z x : X) (ys : List X) → eq z x ≡ false → has eq z (remove x ys) ≡ has eq z ys
    has-remove z x [] h = refl
    has-remove z x (y ∷ ys) h = go (eq x y) refl (has-remove z x ys h)
      where
        go : (b : Bool) → eq x y ≡ b → has eq z (remove x ys) ≡ has eq z ys → has eq z (cond b (remove x ys) (y ∷ remove x ys)) ≡ (eq z y || has eq z ys)
        go true e i = i ∙ sym (ap (λ b. b || has eq z ys) (subst (λ w. eq z w ≡ false) ((law x y).0 e) h))
        go false e i = ap (λ b. eq z y || b) i

    -- where x is no member nothing is taken out
    remove-none : (x : X) (ys : List X) → has eq x ys ≡ false → remove x ys ≡ ys
    remove-none x [] h = refl
    remove-none x (y ∷ ys) h =
        let t = or_parts (eq x y) (has eq x ys) h in
        ap (λ b. cond b (remove x ys) (y ∷ remove x ys)) t.0 ∙ ap {B = List X} (λ r. y ∷ r) (remove-none x ys t.1)

    -- taking a member out leaves one distinct element less, by induction on the list
    count-remove : (x : X) (ys : List X) → has eq x ys ≡ true → count eq ys ≡ suc (count eq (remove x ys))
    count-remove x [] h = absurd (both_ways false refl h)
    count-remove x (y ∷ ys) h = go (eq x y) refl (has eq x ys) refl (count-remove x ys)
      where
        go : (b : Bool) → eq x y ≡ b → (m : Bool) → has eq x ys ≡ m → (has eq x ys ≡ true → count eq ys ≡ suc (count eq (remove x ys)))
            → count eq (y ∷ ys) ≡ suc (count eq (cond b (remove x ys) (y ∷ remove x ys)))
        go true e true m i = ap (λ b. cond b (count eq ys) (suc (count eq ys))) (subst (λ w. has eq w ys ≡ true) ((law x y).0 e) m) ∙ i m
        go true e false m i =
            ap (λ b. cond b (count eq ys) (suc (count eq ys))) (subst (λ w. has eq w ys ≡ false) ((law x y).0 e) m)
            ∙ sym (ap (λ r. suc (count eq r)) (remove-none x ys m))
        go false e false m i = absurd (both_ways true (sym h ∙ ap₂ ◌||◌ e m) refl)
        go false e true m i =
            ap (λ w. cond (has eq y ys) w (suc w)) (i m) ∙ step (has eq y ys)
            ∙ sym (ap (λ b. suc (cond b (count eq (remove x ys)) (suc (count eq (remove x ys))))) (has-remove y x ys (apart_turned x y e)))
          where
            step : (b : Bool) → cond b (suc (count eq (remove x ys))) (suc (suc (count eq (remove x ys)))) ≡ suc (cond b (count eq (remove x ys)) (suc (count eq (remove x ys))))
            step true = refl
            step false = refl

    -- a list all of whose elements are in another has no more distinct ones
    pub count-within : (xs ys : List X) → AllByRecursion (λ x. has eq x ys ≡ true) xs → count eq xs ≤ count eq ys
    count-within [] ys a = omega arith
    count-within (x ∷ xs) ys a = go (has eq x xs) refl (count-within xs)
      where
        kept : (zs : List X) → has eq x zs ≡ false → AllByRecursion (λ z. has eq z ys ≡ true) zs → AllByRecursion (λ z. has eq z (remove x ys) ≡ true) zs
        kept [] h t = tt
        kept (z ∷ zs) h t =
            let o = or_parts (eq x z) (has eq x zs) h in
            (has-remove z x ys (apart_turned x z o.0) ∙ t.0, kept zs o.1 t.1)

        go : (b : Bool) → has eq x xs ≡ b → ((zs : List X) → AllByRecursion (λ x. has eq x zs ≡ true) xs → count eq xs ≤ count eq zs) → cond b (count eq xs) (suc (count eq xs)) ≤ count eq ys
        go true e i = i ys a.1
        go false e i =
            let i : count eq xs ≤ count eq (remove x ys) = i (remove x ys) (kept xs e a.1) in
            let r : count eq ys ≡ suc (count eq (remove x ys)) = count-remove x ys a.0 in
            omega arith

-- the numbers below n
abbrev pub below : ℕ → List ℕ
below zero = []
below (suc n) = n ∷ below n

-- each number below n is listed
pub has-below : (n r : ℕ) → r < n → has eqb r (below n) ≡ true
has-below zero r h = absurd (omega arith)
has-below (suc n) r h =
    ⊎_elim (λ e. or_left (eqb r n) (has eqb r (below n)) (eq-eqb r n e)) (λ e. or_right (eqb r n) (has eqb r (below n)) (has-below n r (omega arith))) (cases_eq r n)

-- and no other
not_below : (n r : ℕ) → n ≤ r → has eqb r (below n) ≡ false
not_below zero r h = refl
not_below (suc n) r h = ap₂ ◌||◌ (ne_eqb r n (λ e. omega arith)) (not_below n r (omega arith))

-- they are n, for each is new
pub count-below : (n : ℕ) → count eqb (below n) ≡ n
count-below zero = refl
count-below (suc n) = ap₂ (λ b m. cond b m (suc m)) (not_below n n (omega arith)) (count-below n)

-- what holds below n holds of all that are listed
pub all_below : (P : ℕ → Type 0) (n : ℕ) → ((r : ℕ) → r < n → P r) → AllByRecursion P (below n)
all_below P zero h = tt
all_below P (suc n) h = (h n (omega arith), all_below P n (λ r l. h r (omega arith)))

-- distinct numbers below n are at most n
pub count-limited : (n : ℕ) (xs : List ℕ) → AllByRecursion (λ r. r < n) xs → count eqb xs ≤ n
count-limited n xs a =
    let h : count eqb xs ≤ count eqb (below n) = count-within eqb Decides-eqb xs (below n) (members xs a) in
    let e : count eqb (below n) ≡ n = count-below n in
    omega arith
  where
    members : (ys : List ℕ) → AllByRecursion (λ r. r < n) ys → AllByRecursion (λ r. has eqb r (below n) ≡ true) ys
    members [] t = tt
    members (y ∷ ys) t = (has-below n y t.0, members ys t.1)

-- ---- images
module _ {X Y : Type 0} (eq : X → X → Bool) (eq' : Y → Y → Bool) (f : X → Y) where
  -- a function that keeps apart what the tests keep apart keeps membership
  pub has-map : (x : X) (xs : List X) → AllByRecursion (λ y. eq' (f x) (f y) ≡ eq x y) xs → has eq' (f x) (map f xs) ≡ has eq x xs
  has-map x [] h = refl
  has-map x (y ∷ ys) h = ap₂ ◌||◌ h.0 (has-map x ys h.1)

  -- and so the number of distinct elements
  pub count_map : (P : X → Type 0) → ((x y : X) → P x → P y → eq' (f x) (f y) ≡ eq x y) → (xs : List X) → AllByRecursion P xs → count eq' (map f xs) ≡ count eq xs
  count_map P h [] a = refl
  count_map P h (x ∷ xs) a =
      ap₂ (λ b n. cond b n (suc n)) (has-map x xs (weaker xs a.1)) (count_map P h xs a.1)
    where
      weaker : (ys : List X) → AllByRecursion P ys → AllByRecursion (λ y. eq' (f x) (f y) ≡ eq x y) ys
      weaker [] t = tt
      weaker (y ∷ ys) t = (h x y a.0 t.0, weaker ys t.1)
