use Rattle.std.proofs.Common.{◌≡◌, ℕ, ◌<◌, length, get_or}
use Rattle.policy.specs.Counts.{how_many}
use Rattle.policy.proofs.counting.count_decisions.Given as goal

abbrev pub invariant-loop-number : goal.invariant-loop-number
invariant-loop-number g l =
    (length l.counts ≡ 16)
    × (g.S.Source.meaning l.source ≡ g.S.Source.meaning l.initial.source)
    × ((c : ℕ) → c < 16 → get_or l.counts c 0 ≡ how_many (g.S.Source.meaning l.initial.source).decision c l.number)
