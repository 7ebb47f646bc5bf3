use Rattle.std.proofs.Common.{◌≡◌, true, ◌||◌, eqb, sym, subst, arith}
use Rattle.std.proofs.lemmas.Result.{err_from_is_err_and}
use Rattle.std.proofs.lemmas.Bool.Decides.{nat_tests}
use Rattle.fields.specs.Shown.{bare}
use Rattle.fields.proofs.Stepping.{enters, enters_in_vain, handed_on_as}
use Rattle.vocabulary.specs.Record.{attributes_of}
use Rattle.request.specs.Request.{take_in, ask}
use Rattle.request.specs.Reading.{given_in, Stepped}
use Rattle.request.proofs.given.Given.ask.Goals as goal

pub returns-in_err-field-in-49 : goal.returns-in_err-field-in-49
returns-in_err-field-in-49 c =
    let raw = c.args.raw.now in
    let v = attributes_of c.args.vocabulary.now in
    let self = c.args.self.now in
    let p = err_from_is_err_and c.from_residual.result c.from_residual.ensures.1 in
    let tag : (eqb raw.tag 0x31 || eqb raw.tag 0x32) ≡ true = grind (arith, nat_tests) in
    handed_on_as (λ r. Stepped (ask v raw.at (given_in self) (bare raw)) self r self) _ _ _ p.1 p.2
    (enters_in_vain raw.at (bare raw) (eqb raw.tag 0x31 || eqb raw.tag 0x32) (take_in v raw.at (given_in self)) tag _ c.in_err-field-in-49.ensures.says_what_is_laid_down)

pub returns-in_ok-field-in-49 : goal.returns-in_ok-field-in-49
returns-in_ok-field-in-49 c =
    let raw = c.args.raw.now in
    let v = attributes_of c.args.vocabulary.now in
    let self = c.args.self.now in
    let tag : (eqb raw.tag 0x31 || eqb raw.tag 0x32) ≡ true = grind (arith, nat_tests) in
    subst (λ a. Stepped a self c.take_in.result c.take_in.new.self)
    (sym (enters raw.at (bare raw) (eqb raw.tag 0x31 || eqb raw.tag 0x32) (take_in v raw.at (given_in self)) tag _ c.in_ok-field-in-49.ensures.says_what_is_laid_down))
    c.take_in.ensures

pub returns-in_default : goal.returns-in_default
returns-in_default c = grind (arith, nat_tests)
