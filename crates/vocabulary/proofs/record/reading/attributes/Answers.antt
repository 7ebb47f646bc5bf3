use Rattle.std.proofs.Common.{◌≡◌, length, ◌∙◌, sym, subst}
use Rattle.std.proofs.lemmas.Result.{err_from_is_err_and}
use Rattle.refusal.specs.Answers.{answer_by}
use Rattle.fields.proofs.Answering.{handed_back}
use Rattle.fields.proofs.Reading.{sheet_refused, sheet_ended}
use Rattle.fields.proofs.Walking.{read_from, read_to_the_end, field_refused, step_refused, read_further}
use Rattle.vocabulary.specs.Vocabulary.{start, step, finish}
use Rattle.vocabulary.specs.Parts.{attributes_in, progress}
use Rattle.vocabulary.proofs.record.reading.attributes.Goals as goal

pub loop-raw-init : goal.loop-raw-init
loop-raw-init c = record {
  same_sheet = c.new-reader.ensures.reads_the_sheet;
  read_so_far = read_from step c.args.sheet.now 0 start _ _ _ c.in_ok-fields.ensures.0 c.into_iter-raw-iterator.ensures.into_iter_gives c.new-reader.ensures.starts;
}

pub returns-in_err-raw : goal.returns-in_err-raw
returns-in_err-raw c =
    let bs = c.args.sheet.now in
    let p = err_from_is_err_and c.from_residual-in_err-raw.result c.from_residual-in_err-raw.ensures.1 in
    handed_back (attributes_in bs) _ _ _ p
    (sheet_refused bs c.in_ok-fields.ensures.1 _ _ _ (field_refused step _ bs _ _ c.loop-raw.invariant.read_so_far c.in-Some.raw _ c.next.new.self c.in-Some.ensures.steps c.in_err-raw.was))

pub returns-in_err-step : goal.returns-in_err-step
returns-in_err-step c =
    let bs = c.args.sheet.now in
    let p = err_from_is_err_and c.from_residual-in_err-step.result c.from_residual-in_err-step.ensures.1 in
    handed_back (attributes_in bs) _ _ _ p
    (sheet_refused bs c.in_ok-fields.ensures.1 _ _ _
    (step_refused step _ bs _ _ c.loop-raw.invariant.read_so_far c.in-Some.raw c.in_ok-raw.raw c.next.new.self _ c.in-Some.ensures.steps c.in_ok-raw.was c.in_err-step.ensures))

pub loop-raw-preserved : goal.loop-raw-preserved
loop-raw-preserved c =
    let stepped = c.in_ok-step.ensures in
    record {
      same_sheet = stepped.1 ∙ c.loop-raw.invariant.same_sheet;
      read_so_far = read_further step _ c.args.sheet.now _ _ c.loop-raw.invariant.read_so_far c.in-Some.raw c.in_ok-raw.raw c.next.new.self _ c.in-Some.ensures.steps c.in_ok-raw.was stepped.0;
    }

pub returns : goal.returns
returns c =
    let bs = c.args.sheet.now in
    subst (λ x. answer_by (attributes_in x) c.finish.result ≡ finish (length x) (progress c.loop-raw.reader)) c.loop-raw.invariant.same_sheet c.finish.ensures
    ∙ sym (sheet_ended bs c.in_ok-fields.ensures.1 _ _ _ (read_to_the_end step _ bs _ _ c.loop-raw.invariant.read_so_far c.in-None.ensures.steps.1))
