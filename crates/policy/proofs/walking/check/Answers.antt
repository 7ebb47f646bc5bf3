use Rattle.std.proofs.Common.{sym}
use Rattle.vocabulary.specs.Record.{attributes_of}
use Rattle.std.proofs.lemmas.Result.{err_from_is_err_and}
use Rattle.fields.proofs.Answering.{handed_back}
use Rattle.policy.specs.Sheets.{policy_of}
use Rattle.policy.specs.Walks.{nothing}
use Rattle.policy.proofs.Consulting.{refused_anywhere}
use Rattle.policy.proofs.walking.check.Goals as goal

pub returns-in_err-decide : goal.returns-in_err-decide
returns-in_err-decide g c =
    let t = g.A.Algebra.tables c.args.algebra.now in
    let p = err_from_is_err_and c.from_residual.result c.from_residual.ensures.1 in
    handed_back nothing _ _ _ p (sym (refused_anywhere t _ (policy_of (attributes_of c.args.vocabulary.now) t.size c.args.sheet.now) _ c.in_err-decide.ensures))
