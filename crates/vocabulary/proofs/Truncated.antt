-- What is asked of a vocabulary comes out of a truncation, since each part of it has one proof at most.
use Rattle.std.proofs.Common.{◌≡◌, ℕ, true, ◌≢◌, List, [], ◌∷◌, w32, SFits}
use mathlib.Core.Logic.{∥∥₁_elim}
use mathlib.Core.HLevel.{⊥_prop}
use mathlib.Core.Bool.{Bool-set}
use native.Mathlib.Bridge.{le_prop}
use Rattle.std.specs.List.{AllByRecursion}
use Rattle.fields.specs.Words.{is_name}
use Rattle.vocabulary.specs.Grid.{Narrow}
use Rattle.vocabulary.specs.Vocabulary.{Kind, valued, ranged, Attribute, names_of, Distinct, ProperKind, Proper}

module _ {A : Type 0} (e : ∥ A ∥₁) where
  -- of each element of a list
  all_out : {X : Type 0} (P : X → Type 0) → ((x : X) → (A → P x) → P x) → (xs : List X) → (A → AllByRecursion P xs) → AllByRecursion P xs
  all_out P one [] f = tt
  all_out P one (x ∷ xs) f = (one x (λ a. (f a).0), all_out P one xs (λ a. (f a).1))

  distinct_out : (xs : List (List ℕ)) → (A → Distinct xs) → Distinct xs
  distinct_out [] f = tt
  distinct_out (x ∷ xs) f = (all_out (λ y. y ≢ x) (λ y g q. ∥∥₁_elim e ⊥_prop (λ a. g a q)) xs (λ a. (f a).0), distinct_out xs (λ a. (f a).1))

  names_out : (xs : List (List ℕ)) → (A → AllByRecursion (λ n. is_name n ≡ true) xs) → AllByRecursion (λ n. is_name n ≡ true) xs
  names_out = all_out (λ n. is_name n ≡ true) (λ n g. ∥∥₁_elim e (Bool-set _ _) g)

  kind_out : (k : Kind) → (A → ProperKind k) → ProperKind k
  kind_out (valued names) f = (∥∥₁_elim e le_prop (λ a. (f a).0), ∥∥₁_elim e le_prop (λ a. (f a).1), names_out names (λ a. (f a).2), distinct_out names (λ a. (f a).3))
  kind_out (ranged zs) f = (
    ∥∥₁_elim e le_prop (λ a. (f a).0),
    ∥∥₁_elim e le_prop (λ a. (f a).1),
    all_out (SFits w32) (λ z g. record { sfits = ∥∥₁_elim e le_prop (λ a. (g a).sfits) }) zs (λ a. (f a).2),
    ∥∥₁_elim e (Bool-set _ _) (λ a. (f a).3),
  )

pub proper_out : {v : List Attribute} → ∥ Proper v ∥₁ → Proper v
proper_out {v} e = record {
  eight_attributes_at_most = ∥∥₁_elim e le_prop (λ p. p.eight_attributes_at_most);
  names_are_names = all_out e (λ a. is_name a.name ≡ true) (λ a g. ∥∥₁_elim e (Bool-set _ _) g) v (λ p. p.names_are_names);
  names_are_distinct = distinct_out e (names_of v) (λ p. p.names_are_distinct);
  kinds_are_proper = all_out e (λ a. ProperKind a.kind) (λ a. kind_out e a.kind) v (λ p. p.kinds_are_proper);
  grid_fits = ∥∥₁_elim e le_prop (λ p. p.grid_fits);
}

-- so does that no attribute has more than sixteen cells
pub narrow_out : (shape : List ℕ) → ∥ Narrow shape ∥₁ → Narrow shape
narrow_out shape e i = ∥∥₁_elim e le_prop (λ n. n i)
