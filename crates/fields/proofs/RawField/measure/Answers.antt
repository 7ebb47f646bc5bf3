use Rattle.std.proofs.lemmas.Result.{err_from_is_err_and, IfOk-from_err}
use Rattle.refusal.proofs.Handing.{handed_on}
use Rattle.fields.proofs.RawField.measure.Goals as goal

pub returns-in-err-attribute : goal.returns-in-err-attribute
returns-in-err-attribute c =
    let p = err_from_is_err_and c.from-residual.result c.from-residual.ensures.1 in
    record {
      says-what-is-laid-down = handed_on _ _ _ _ _ _ p.1 p.2 c.in-err-attribute.ensures;
      parts-fit = IfOk-from_err c.from-residual.result _ c.from-residual.ensures.0;
    }
