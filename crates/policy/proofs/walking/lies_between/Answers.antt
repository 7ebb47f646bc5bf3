use Rattle.std.proofs.Common.{◌≡◌, Some, sym, ◌∙◌, ap₂}
use Rattle.policy.specs.Sheets.{between}
use Rattle.policy.specs.Walks.{among}
use Rattle.policy.proofs.Seeing.{among_range}
use Rattle.policy.proofs.walking.lies_between.Goals as goal

pub returns : goal.returns
returns c =
    let is-low : c.args.low ≡ Some c.in_ok-low.low = cc in
    let is-high : c.args.high ≡ Some c.in_ok-high.high = cc in
    c.then_some.ensures ∙ among_range c.args.cell c.in_ok-low.low c.in_ok-high.high _ (sym c.is_from.ensures) ∙ sym (ap₂ (λ x y. among c.args.cell (between x y)) is-low is-high)
