use Rattle.std.proofs.Common.{◌∙◌}
use Rattle.std.proofs.lemmas.Result.{err_from_is_err_and}
use Rattle.fields.proofs.Answering.{handed_back}
use Rattle.fields.proofs.Reading.{sheet_refused}
use Rattle.fields.proofs.Walking.{field_refused, step_refused, read_further}
use Rattle.vocabulary.specs.Record.{attributes_of, cells_of}
use Rattle.request.specs.Request.{ask}
use Rattle.request.proofs.reading.read_request.Goals as goal

pub returns-in_err-raw : goal.returns-in_err-raw
returns-in_err-raw c =
    let bs = c.args.request.now in
    let p = err_from_is_err_and c.from_residual-in_err-raw.result c.from_residual-in_err-raw.ensures.1 in
    handed_back cells_of _ _ _ p
    (sheet_refused bs c.in_ok-fields.ensures.1 _ _ _
    (field_refused (ask (attributes_of c.args.vocabulary.now)) _ bs _ _ c.loop-raw.invariant.read_so_far c.in-Some.raw _ c.next.new.self c.in-Some.ensures.steps c.in_err-raw.was))

pub returns-in_err-ask : goal.returns-in_err-ask
returns-in_err-ask c =
    let bs = c.args.request.now in
    let p = err_from_is_err_and c.from_residual-in_err-ask.result c.from_residual-in_err-ask.ensures.1 in
    handed_back cells_of _ _ _ p
    (sheet_refused bs c.in_ok-fields.ensures.1 _ _ _
    (step_refused (ask (attributes_of c.args.vocabulary.now)) _ bs _ _ c.loop-raw.invariant.read_so_far c.in-Some.raw c.in_ok-raw.raw c.next.new.self _ c.in-Some.ensures.steps c.in_ok-raw.was c.in_err-ask.ensures))

pub loop-raw-preserved : goal.loop-raw-preserved
loop-raw-preserved c =
    let stepped = c.in_ok-ask.ensures in
    record {
      one_an_attribute = stepped.1 ∙ c.loop-raw.invariant.one_an_attribute;
      read_so_far = read_further (ask (attributes_of c.args.vocabulary.now)) _ c.args.request.now _ _ c.loop-raw.invariant.read_so_far c.in-Some.raw c.in_ok-raw.raw c.next.new.self _ c.in-Some.ensures.steps c.in_ok-raw.was stepped.0;
    }
