use Rattle.std.proofs.Common.{◌≡◌, false, sym, refl, ◌∙◌, arith, below_more, rules}
use Rattle.std.proofs.lemmas.Bool.{both_ways}
use Rattle.table.proofs.alike.Goals as goal

pub returns : goal.returns
returns c = (λ _. (c.loop-c.invariant.0, λ i l. c.loop-c.invariant.1 i (omega arith)), λ _. refl)

pub returns-then-ne : goal.returns-then-ne
returns-then-ne c =
    (λ e. absurd (both_ways false refl e), λ a. let same : c.branch-a.result ≡ c.branch-b.result = c.branch-a.ensures ∙ a.1 c.loop-c.c (omega arith) ∙ sym c.branch-b.ensures in search rules)

pub loop-c-preserved : goal.loop-c-preserved
loop-c-preserved c =
    let same : c.branch-a.result ≡ c.branch-b.result = search rules in
    (c.loop-c.invariant.0, below_more _ _ c.loop-c.invariant.1 (sym c.branch-a.ensures ∙ same ∙ c.branch-b.ensures))
