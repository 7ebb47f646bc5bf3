use Rattle.std.proofs.Common.{◌≡◌, ℕ, ◌<◌, true}
use Rattle.pages.specs.Projection.{has_bit}
use Rattle.making.proofs.projected.leaves_out.Given as goal

abbrev pub invariant-loop-cell : goal.invariant-loop-cell
invariant-loop-cell l = (c : ℕ) → c < l.cell → has_bit l.mask c ≡ true
