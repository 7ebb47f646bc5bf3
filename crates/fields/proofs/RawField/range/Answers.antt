use Rattle.std.proofs.lemmas.Result.{err_from_is_err_and, IfOk-from_err}
use Rattle.refusal.proofs.Handing.{handed_on}
use Rattle.fields.proofs.RawField.range.Goals as goal

pub returns-in_err-attribute : goal.returns-in_err-attribute
returns-in_err-attribute c =
    let p = err_from_is_err_and c.from_residual.result c.from_residual.ensures.1 in
    record {
      says_what_is_laid_down = handed_on _ _ _ _ _ _ p.1 p.2 c.in_err-attribute.ensures;
      parts_fit = IfOk-from_err c.from_residual.result _ c.from_residual.ensures.0;
    }
