use Rattle.std.proofs.Common.{◌≡◌, ℕ, zero, suc, ◌+◌, ◌≤◌, Bool, true, false, cond, eqb, List, length, get_or, take, sym, refl, ap, ◌∙◌, add-one, arith}
use Rattle.std.specs.List.{count_by}
use Rattle.std.proofs.Math.Seq.{take-length}
use Rattle.std.proofs.lemmas.List.Sums.{count_by_more_yes, count_by_more_no}
use Rattle.marking.specs.Marks.{tally}
use Rattle.marking.proofs.Marking.count.Goals as goal

-- the tally of the first n bytes counts those of them that are 1
counted : (n : ℕ) (marks : List ℕ) → n ≤ length marks → count_by (λ b. eqb b 1) (take n marks) ≡ tally n marks
counted zero marks h = refl
counted (suc n) marks h =
    ap (λ (i : ℕ). count_by (λ b. eqb b 1) (take i marks)) (sym (add-one n)) ∙ one (counted n marks (omega arith)) (eqb (get_or marks n 0) 1) refl
  where
    one : count_by (λ b. eqb b 1) (take n marks) ≡ tally n marks → (b : Bool) → eqb (get_or marks n 0) 1 ≡ b → count_by (λ b. eqb b 1) (take (n + 1) marks) ≡ cond b (suc (tally n marks)) (tally n marks)
    one before true e = count_by_more_yes (λ b. eqb b 1) marks n 0 (omega arith) e ∙ add-one _ ∙ ap suc before
    one before false e = count_by_more_no (λ b. eqb b 1) marks n 0 (omega arith) e ∙ before

pub returns : goal.returns
returns c =
    let marks = c.args.self.now.bytes.now in
    c.ones.ensures ∙ ap (count_by (λ b. eqb b 1)) (sym (take-length marks)) ∙ counted (length marks) marks (omega arith)
