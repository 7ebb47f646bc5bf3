use Rattle.std.proofs.Common.{◌≡◌, ℕ, ◌/◌, ap, ◌∙◌, rules}
use native.Mathlib.Nat.{mul-div_cancel_left}
use Rattle.making.proofs.sourced.share.Goals as goal

pub returns : goal.returns
returns c each h e =
    let divided : c.unwrap_or.result ≡ c.args.count / c.args.cells = search rules in
    divided ∙ ap (λ (x : ℕ). x / c.args.cells) e ∙ mul-div_cancel_left each h
