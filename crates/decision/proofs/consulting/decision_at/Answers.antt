use Rattle.std.proofs.Common.{ℕ, ◌<◌, sym, subst}
use Rattle.vocabulary.specs.Record.{attributes_of}
use Rattle.decision.proofs.Coded.{decision-below_three, decoded_below_three}
use Rattle.decision.proofs.consulting.decision_at.Goals as goal

pub unwrap-requires : goal.unwrap-requires
unwrap-requires c =
    let code = c.code_at-code.result in
    let below : code < 3 = subst (λ (x : ℕ). x < 3) (sym c.code_at-code.ensures) (decision-below_three (attributes_of c.args.vocabulary.now) c.args.sheet.now c.args.number) in
    decoded_below_three c.try_from.result code below c.try_from.ensures
