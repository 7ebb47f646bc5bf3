-- What a source means is lawful: the proofs that sources give of it.
use Rattle.std.proofs.Common.{◌≡◌, ℕ, ◌<◌, true, false, ltb, List, get_or, sym, subst, ⊎_elim, le-ltb}
use Rattle.std.proofs.Math.Logic.{∥∥₁_elim}
use Rattle.std.proofs.Math.Nat.{ℕ_set}
use Rattle.std.proofs.Math.Bridge.{le_prop}
use Rattle.std.proofs.lemmas.Bool.{cases_Bool, cond-true, cond-false}
use Rattle.vocabulary.specs.Grid.{grid}
use Rattle.policy.specs.Meaning.{Meaning, Lawful}
use Rattle.policy.specs.Lists.{codes_meaning, AllBelow}

-- both laws come out of a truncation, since each has one proof at most
pub lawful_of : {m : Meaning} → ∥ Lawful m ∥₁ → Lawful m
lawful_of truncated = record {
  decisions_below_the_size = λ g. ∥∥₁_elim truncated le_prop (λ l. l.decisions_below_the_size g);
  zero_beyond_the_grid = λ g h. ∥∥₁_elim truncated (ℕ_set _ _) (λ l. l.zero_beyond_the_grid g h);
}

-- a code or 0, which is below every size
pub codes_lawful : (shape : List ℕ) (k : ℕ) (codes : List ℕ) → 0 < k → ∥ AllBelow k codes ∥₁ → Lawful (codes_meaning shape k codes)
codes_lawful shape k codes some below = record {
  decisions_below_the_size =
      λ g.
      ⊎_elim (λ (t : ltb g (grid shape) ≡ true). subst (λ (d : ℕ). d < k) (sym (cond-true (ltb g (grid shape)) (get_or codes g 0) 0 t)) (∥∥₁_elim below le_prop (λ b. b g)))
      (λ (t : ltb g (grid shape) ≡ false). subst (λ (d : ℕ). d < k) (sym (cond-false (ltb g (grid shape)) (get_or codes g 0) 0 t)) some)
      (cases_Bool (ltb g (grid shape)));
  zero_beyond_the_grid = λ g h. cond-false (ltb g (grid shape)) (get_or codes g 0) 0 (le-ltb g (grid shape) h);
}
