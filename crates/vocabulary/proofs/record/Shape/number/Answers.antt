use Rattle.std.proofs.Common.{◌≡◌, ℕ, List, Option, sym, ap, ◌∙◌, arith}
use Rattle.vocabulary.specs.Grid.{number_if}
use Rattle.vocabulary.proofs.Walked.{number_from, number_if_lem, number-none, number_stops, number_ends}
use Rattle.vocabulary.proofs.record.Shape.number.Goals as goal

-- what the walk comes to is the answer for the shape that has these counts
answer : (ns shape cs : List ℕ) (r : Option ℕ) → ns ≡ shape → number_from 0 ns cs ≡ r → r ≡ number_if shape cs
answer ns shape cs r e w = sym w ∙ number_if_lem ns cs ∙ ap (λ s. number_if s cs) e

pub returns-then-cells-counts : goal.returns-then-cells-counts
returns-then-cells-counts c = answer _ _ _ _ c.counts-counts.ensures (number-none 0 _ _ c.if-cells-counts.true)

pub returns-then-cells-i : goal.returns-then-cells-i
returns-then-cells-i c = answer _ _ _ _ c.counts-counts.ensures (c.loop-i.invariant.0 ∙ number_stops _ _ _ _ c.loop-i-test.true (omega arith) c.if-cells-i.true)

pub returns : goal.returns
returns c = answer _ _ _ _ c.counts-counts.ensures (c.loop-i.invariant.0 ∙ number_ends _ _ _ _ c.loop-i-test.false (omega arith))
