-- Counting the numbers at which policies decide differently.
use Rattle.std.proofs.Common.{[], ◌∷◌, ◌++◌, ◌∙◌, zero-add, ◌≡◌, ℕ, zero, suc, ◌+◌, ◌<◌, ◌≤◌, Bool, true, false, cond, not, eqb, sym, refl, ap, subst, ap₂, ⊎_elim, arith, eq-eqb}
use Rattle.std.proofs.lemmas.Bool.{eqb-true, cases_eq}
use Rattle.std.specs.List.{range_with_len, count_by}
use Rattle.std.proofs.lemmas.List.Sums.{sum_by_push}
use Rattle.policy.proofs.Counted.{at_most_one}
use Rattle.decision.specs.Differing.{differ_at, how_many_differ}

-- one number more in a range is one more at its end
range_more : (a n : ℕ) → range_with_len a (suc n) ≡ range_with_len a n ++ (a + n) ∷ []
range_more a zero = ap (λ (k : ℕ). k ∷ []) (omega arith)
range_more a (suc n) = ap (λ xs. a ∷ xs) (range_more (a + 1) n ∙ ap (λ (k : ℕ). range_with_len (a + 1) n ++ k ∷ []) (omega arith))

-- a number that adds nothing to a count is one at which the test passes
passed : (b : Bool) (m : ℕ) → m + cond (not b) 1 0 ≡ 0 → b ≡ true
passed true m h = refl
passed false m h = absurd (omega arith)

module _ (d e : ℕ → ℕ) where
  -- no more numbers differ than there are
  pub at_most_all : (n : ℕ) → how_many_differ d e n ≤ n
  at_most_all zero = omega arith
  at_most_all (suc n) = omega (arith, at_most_all n, at_most_one (differ_at d e n))

  -- where all are alike none is counted, for each adds nothing
  pub none_where_alike : (n : ℕ) → ((g : ℕ) → g < n → d g ≡ e g) → how_many_differ d e n ≡ 0
  none_where_alike zero h = refl
  none_where_alike (suc n) h = ap₂ (λ (m : ℕ) b. m + cond (not b) 1 0) (none_where_alike n (λ g l. h g (omega arith))) (eq-eqb (d n) (e n) (h n (omega arith)))

  -- where none is counted all are alike, for the last and those before it add nothing
  pub alike_where_none : (n : ℕ) → how_many_differ d e n ≡ 0 → (g : ℕ) → g < n → d g ≡ e g
  alike_where_none zero h g l = absurd (omega arith)
  alike_where_none (suc n) h g l =
      let before : how_many_differ d e n ≡ 0 = omega arith in
      ⊎_elim
      (λ (same : g ≡ n). subst (λ (x : ℕ). d x ≡ e x) (sym same) (eqb-true (d n) (e n) (passed (eqb (d n) (e n)) (how_many_differ d e n) h)))
      (λ (other : g ≡ n → ⊥). alike_where_none n before g (omega arith))
      (cases_eq g n)

  -- the numbers in a range at which they differ are counted
  pub counted_in_range : (n : ℕ) → count_by (differ_at d e) (range_with_len 0 n) ≡ how_many_differ d e n
  counted_in_range zero = refl
  counted_in_range (suc n) =
      ap (count_by (differ_at d e)) (range_more 0 n)
      ∙ sum_by_push (λ x. cond (differ_at d e x) 1 0) (range_with_len 0 n) (0 + n)
      ∙ ap₂ (λ m k. m + cond (differ_at d e k) 1 0) (counted_in_range n) (zero-add n)
