-- The size of pages is the number of their branching parts.
use Rattle.std.proofs.Common.{◌≡◌, ℕ, suc, ◌≤◌, Bool, true, false, cond, ◌||◌, List, [], ◌∷◌, length, Decides, sym, refl, ap, ◌∙◌, subst, ap₂, ⊎_elim, arith}
use mathlib.Core.List.Memᴰ
use mathlib.Core.List.{Memᴰ}
use Rattle.std.specs.List.{AllByRecursion}
use Rattle.std.proofs.lemmas.Bool.{both_ways, or_cases, or_left, or_right, cases_Bool}
use Rattle.pages.specs.Parts.{Part, same, Branching, parts, has}
use Rattle.pages.specs.Sizes.{count, parts_of, Unrepeated, SizeIsTheNumberOfBranchingParts}
use Rattle.pages.proofs.Deciding.{decides-same}
use Rattle.pages.proofs.Members.{has_left, has_right, has_cases}
use Rattle.pages.proofs.Counting.{count-within}
use Rattle.pages.proofs.Branches.{parts_are_branching}

module _ {X : Type 0} (eq : X → X → Bool) (law : (x y : X) → Decides (eq x y) (x ≡ y)) where
  -- the test finds members, for it holds of equal elements only
  pub member_from-has : (x : X) (xs : List X) → has eq x xs ≡ true → Memᴰ x xs
  member_from-has x [] h = absurd (both_ways false refl h)
  member_from-has x (y ∷ ys) h =
      ⊎_elim (λ t. Memᴰ.head ((law x y).0 t)) (λ t. Memᴰ.tail (member_from-has x ys t)) (or_cases (eq x y) (has eq x ys) h)

  -- every member is found, for the test holds of equal elements
  pub has-from_member : (x : X) (xs : List X) → Memᴰ x xs → has eq x xs ≡ true
  has-from_member x [] m = absurd (Memᴰ.not-nil m)
  has-from_member x (y ∷ ys) m =
      ⊎_elim (λ e. or_left (eq x y) (has eq x ys) ((law x y).1 e)) (λ t. or_right (eq x y) (has eq x ys) (has-from_member x ys t)) (Memᴰ.cases_cons m)

  -- what holds of each member holds of all
  pub all_from_members : (P : X → Type 0) (xs : List X) → ((x : X) → Memᴰ x xs → P x) → AllByRecursion P xs
  all_from_members P [] h = tt
  all_from_members P (x ∷ xs) h = (h x (Memᴰ.head refl), all_from_members P xs (λ y m. h y (Memᴰ.tail m)))

  -- a list without repetition has as many distinct elements as elements
  pub count_unrepeated : (xs : List X) → Unrepeated xs → count eq xs ≡ length xs
  count_unrepeated [] u = refl
  count_unrepeated (x ∷ xs) u =
      ap₂ (λ b n. cond b n (suc n)) (⊎_elim (λ t. absurd (u.0 (member_from-has x xs t))) (λ t. t) (cases_Bool (has eq x xs))) (count_unrepeated xs u.1)

  -- a list with each element left out that stands further on
  once : List X → List X
  once [] = []
  once (x ∷ xs) = cond (has eq x xs) (once xs) (x ∷ once xs)

  -- which leaves its members, for one that is left out stands further on
  has_once : (y : X) (xs : List X) → has eq y (once xs) ≡ has eq y xs
  unfolding once
  has_once y [] = refl
  has_once y (x ∷ xs) = go (has eq x xs) refl (has_once y xs)
    where
      go : (b : Bool) → has eq x xs ≡ b → has eq y (once xs) ≡ has eq y xs → has eq y (cond b (once xs) (x ∷ once xs)) ≡ (eq y x || has eq y xs)
      go false e i = ap (λ t. eq y x || t) i
      go true e i =
          i
          ∙ ⊎_elim
          (λ t. let m : has eq y xs ≡ true = subst (λ z. has eq z xs ≡ true) (sym ((law y x).0 t)) e in m ∙ sym (or_left (eq y x) (has eq y xs) t))
          (λ f. sym (ap (λ t. t || has eq y xs) f)) (cases_Bool (eq y x))

  -- and none of them twice
  unrepeated_once : (xs : List X) → Unrepeated (once xs)
  unfolding once
  unrepeated_once [] = tt
  unrepeated_once (x ∷ xs) = go (has eq x xs) refl (unrepeated_once xs)
    where
      go : (b : Bool) → has eq x xs ≡ b → Unrepeated (once xs) → Unrepeated (cond b (once xs) (x ∷ once xs))
      go true e i = i
      go false e i = (λ m. both_ways (has eq x xs) e (sym (has_once x xs) ∙ has-from_member x (once xs) m), i)

  -- lists with the same members have as many distinct elements
  pub count-same_members : (xs ys : List X) → ((x : X) → Memᴰ x xs → has eq x ys ≡ true) → ((y : X) → Memᴰ y ys → has eq y xs ≡ true) → count eq xs ≡ count eq ys
  count-same_members xs ys f g =
      let a : count eq xs ≤ count eq ys = count-within eq law xs ys (all_from_members (λ x. has eq x ys ≡ true) xs f) in
      let b : count eq ys ≤ count eq xs = count-within eq law ys xs (all_from_members (λ x. has eq x xs ≡ true) ys g) in
      omega arith

-- a part of pages is a part of one of them
pub from_pages : (shape : List ℕ) (pages : List (List ℕ)) (q : Part) → has same q (parts_of shape pages) ≡ true → (p : List ℕ) × Memᴰ p pages × Branching shape p q
from_pages shape [] q h = absurd (both_ways false refl h)
from_pages shape (p ∷ ps) q h =
    ⊎_elim (λ t. (p, Memᴰ.head refl, (parts_are_branching shape p q).what_is_computed_branches t))
    (λ t. let i = from_pages shape ps q t in (i.0, Memᴰ.tail i.1, i.2))
    (has_cases same q (parts 0 shape p) (parts_of shape ps) h)

-- a part of one of the pages is a part of them
pub to_pages : (shape : List ℕ) (pages : List (List ℕ)) (q : Part) (p : List ℕ) → Memᴰ p pages → Branching shape p q → has same q (parts_of shape pages) ≡ true
to_pages shape [] q p m b = absurd (Memᴰ.not-nil m)
to_pages shape (r ∷ rs) q p m b =
    ⊎_elim
    (λ e. has_left same q (parts 0 shape r) (parts_of shape rs) ((parts_are_branching shape r q).what_branches_is_computed (subst (λ z. Branching shape z q) e b)))
    (λ t. has_right same q (parts 0 shape r) (parts_of shape rs) (to_pages shape rs q p t b)) (Memᴰ.cases_cons m)

-- the parts as they are met, each once, are such a list; and any two such lists have the same members
pub size_is_their_number : SizeIsTheNumberOfBranchingParts
size_is_their_number shape pages =
    record {
      some_list_has_them = (
        once same decides-same (parts_of shape pages),
        record {
          each_once = unrepeated_once same decides-same (parts_of shape pages);
          each_branches_in_a_page =
              λ q m. from_pages shape pages q (sym (has_once same decides-same q (parts_of shape pages)) ∙ has-from_member same decides-same q (once same decides-same (parts_of shape pages)) m);
          each_that_branches_is_there =
              λ p m q b. member_from-has same decides-same q (once same decides-same (parts_of shape pages)) (has_once same decides-same q (parts_of shape pages) ∙ to_pages shape pages q p m b);
        },
      );
      every_such_list_is_of_the_size =
          λ ps l.
          sym (count_unrepeated same decides-same ps l.each_once)
          ∙ count-same_members same decides-same ps (parts_of shape pages)
          (λ q m. let t = l.each_branches_in_a_page q m in to_pages shape pages q t.0 t.1 t.2)
          (λ q m.
          let t = from_pages shape pages q (has-from_member same decides-same q (parts_of shape pages) m) in
          has-from_member same decides-same q ps (l.each_that_branches_is_there t.0 t.1 q t.2));
    }
