-- The laws come out of a truncation, since each of them has one proof at most.
use Rattle.std.proofs.Math.Logic.{∥∥₁_elim}
use Rattle.std.proofs.Math.Nat.{ℕ_set}
use Rattle.std.proofs.Math.Bridge.{le_prop}
use Rattle.algebra.specs.Tables.{Tables}
use Rattle.algebra.specs.Laws.{ShortCutLaws, RegroupingLaws}

pub short_cuts : {t : Tables} → ∥ ShortCutLaws t ∥₁ → ShortCutLaws t
short_cuts truncated = record {
  size_at_least_2 = ∥∥₁_elim truncated le_prop (λ laws. laws.size_at_least_2);
  size_at_most_16 = ∥∥₁_elim truncated le_prop (λ laws. laws.size_at_most_16);
  sum_commutes = λ a b ha hb. ∥∥₁_elim truncated (ℕ_set _ _) (λ laws. laws.sum_commutes a b ha hb);
  sum_with_itself_is_itself = λ a ha. ∥∥₁_elim truncated (ℕ_set _ _) (λ laws. laws.sum_with_itself_is_itself a ha);
  sum_with_zero_is_the_other = λ a ha. ∥∥₁_elim truncated (ℕ_set _ _) (λ laws. laws.sum_with_zero_is_the_other a ha);
  sum_below_size = λ a b ha hb. ∥∥₁_elim truncated le_prop (λ laws. laws.sum_below_size a b ha hb);
  sum_zero_past_size_left = λ a b h. ∥∥₁_elim truncated (ℕ_set _ _) (λ laws. laws.sum_zero_past_size_left a b h);
  sum_zero_past_size_right = λ a b h. ∥∥₁_elim truncated (ℕ_set _ _) (λ laws. laws.sum_zero_past_size_right a b h);
  meet_commutes = λ a b ha hb. ∥∥₁_elim truncated (ℕ_set _ _) (λ laws. laws.meet_commutes a b ha hb);
  meet_with_itself_is_itself = λ a ha. ∥∥₁_elim truncated (ℕ_set _ _) (λ laws. laws.meet_with_itself_is_itself a ha);
  meet_with_zero_is_zero = λ a ha. ∥∥₁_elim truncated (ℕ_set _ _) (λ laws. laws.meet_with_zero_is_zero a ha);
  meet_below_size = λ a b ha hb. ∥∥₁_elim truncated le_prop (λ laws. laws.meet_below_size a b ha hb);
  meet_zero_past_size_left = λ a b h. ∥∥₁_elim truncated (ℕ_set _ _) (λ laws. laws.meet_zero_past_size_left a b h);
  meet_zero_past_size_right = λ a b h. ∥∥₁_elim truncated (ℕ_set _ _) (λ laws. laws.meet_zero_past_size_right a b h);
  negation_of_zero_is_zero = ∥∥₁_elim truncated (ℕ_set _ _) (λ laws. laws.negation_of_zero_is_zero);
  negation_below_size = λ a ha. ∥∥₁_elim truncated le_prop (λ laws. laws.negation_below_size a ha);
  negation_zero_past_size = λ a ha. ∥∥₁_elim truncated (ℕ_set _ _) (λ laws. laws.negation_zero_past_size a ha);
}

pub regrouping : {t : Tables} → ∥ RegroupingLaws t ∥₁ → RegroupingLaws t
regrouping truncated = record {
  sum_associates = λ a b c ha hb hc. ∥∥₁_elim truncated (ℕ_set _ _) (λ laws. laws.sum_associates a b c ha hb hc);
  negating_twice_gives_back = λ a ha. ∥∥₁_elim truncated (ℕ_set _ _) (λ laws. laws.negating_twice_gives_back a ha);
}
