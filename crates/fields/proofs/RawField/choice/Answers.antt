use Rattle.std.proofs.Common.{true, false, Ok, Err, ap, ◌∙◌}
use Rattle.std.proofs.lemmas.Result.{err_from_is_err_and, IfOk-from_err}
use Rattle.refusal.specs.Answers.{told_by, refuse}
use Rattle.refusal.proofs.Handing.{handed_on, tested}
use Rattle.fields.specs.Words.{is_name}
use Rattle.fields.specs.Fields.{choice}
use Rattle.fields.proofs.RawField.choice.Goals as goal

pub returns-in_err-attribute : goal.returns-in_err-attribute
returns-in_err-attribute c =
    let p = err_from_is_err_and c.from_residual.result c.from_residual.ensures.1 in
    record {
      says_what_is_laid_down = handed_on _ _ _ _ _ _ p.1 p.2 c.in_err-attribute.ensures;
      parts_fit = IfOk-from_err c.from_residual.result _ c.from_residual.ensures.0;
    }

pub returns-then-not-is_name : goal.returns-then-not-is_name
returns-then-not-is_name c =
    record {
      says_what_is_laid_down = ap (λ r. Err (told_by r)) c.refused.ensures
          ∙ tested _ (λ x. is_name x.1) (λ x. Ok (choice x.0 x.1)) _ false _ c.in_ok-attribute.ensures c.if-not-is_name.ensures;
      parts_fit = tt;
    }

pub returns : goal.returns
returns c =
    record {
      says_what_is_laid_down = tested _ (λ x. is_name x.1) (λ x. Ok (choice x.0 x.1)) (refuse 13 c.args.self.now.at) true _ c.in_ok-attribute.ensures c.if-not-is_name.ensures;
      parts_fit = tt;
    }
