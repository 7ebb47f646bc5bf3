use Rattle.std.proofs.Common.{sym, ◌∙◌}
use Rattle.std.proofs.lemmas.Result.{err_from_is_err_and}
use Rattle.fields.specs.Fields.{reading}
use Rattle.fields.specs.Parts.{itself}
use Rattle.fields.proofs.Answering.{handed_back}
use Rattle.fields.proofs.Walking.{too_long, read_to_the_end, field_refused, step_refused, read_further}
use Rattle.vocabulary.specs.Record.{attributes_of}
use Rattle.policy.specs.Walking.{begun, step}
use Rattle.policy.proofs.Decided.{decided_refused, decided_ended}
use Rattle.policy.proofs.Walked.{walk-decides}
use Rattle.policy.proofs.walk.Walk.decide.Goals as goal

pub returns-in_err-fields : goal.returns-in_err-fields
returns-in_err-fields g c =
    let w = c.args.self.now in
    let bs = c.args.sheet.now in
    let t = g.A.Algebra.tables w.algebra.now in
    let p = err_from_is_err_and c.from_residual.result c.from_residual.ensures.1 in
    handed_back itself _ _ _ p (sym (walk-decides t (attributes_of w.vocabulary.now) w.cells.now bs w.one_cell_an_attribute) ∙ too_long bs _ _ c.in_err-fields.ensures)

pub returns-in_err-raw : goal.returns-in_err-raw
returns-in_err-raw g c =
    let w = c.args.self.now in
    let bs = c.args.sheet.now in
    let t = g.A.Algebra.tables w.algebra.now in
    let v = attributes_of w.vocabulary.now in
    let p = err_from_is_err_and c.from_residual-in_err-raw.result c.from_residual-in_err-raw.ensures.1 in
    handed_back itself _ _ _ p
    (decided_refused t v w.cells.now bs w.one_cell_an_attribute c.in_ok-fields.ensures.1 _
    (field_refused (step t v w.cells.now) (reading (step t v w.cells.now) 0 begun 0 bs) bs _ _ c.loop-raw.invariant c.in-Some.raw _ c.next.new.self c.in-Some.ensures.steps c.in_err-raw.was))

pub returns-in_err-state : goal.returns-in_err-state
returns-in_err-state g c =
    let w = c.args.self.now in
    let bs = c.args.sheet.now in
    let t = g.A.Algebra.tables w.algebra.now in
    let v = attributes_of w.vocabulary.now in
    let p = err_from_is_err_and c.from_residual-in_err-state.result c.from_residual-in_err-state.ensures.1 in
    handed_back itself _ _ _ p
    (decided_refused t v w.cells.now bs w.one_cell_an_attribute c.in_ok-fields.ensures.1 _
    (step_refused (step t v w.cells.now) (reading (step t v w.cells.now) 0 begun 0 bs) bs _ _ c.loop-raw.invariant c.in-Some.raw c.in_ok-raw.raw c.next.new.self _ c.in-Some.ensures.steps c.in_ok-raw.was (sym c.in_err-state.ensures)))

pub loop-raw-preserved : goal.loop-raw-preserved
loop-raw-preserved g c =
    let w = c.args.self.now in
    let bs = c.args.sheet.now in
    let one = step (g.A.Algebra.tables w.algebra.now) (attributes_of w.vocabulary.now) w.cells.now in
    read_further one (reading one 0 begun 0 bs) bs _ _ c.loop-raw.invariant c.in-Some.raw c.in_ok-raw.raw c.next.new.self _ c.in-Some.ensures.steps c.in_ok-raw.was (sym c.in_ok-state.ensures)

pub returns : goal.returns
returns g c =
    let w = c.args.self.now in
    let bs = c.args.sheet.now in
    let t = g.A.Algebra.tables w.algebra.now in
    let v = attributes_of w.vocabulary.now in
    c.finish.ensures
    ∙ decided_ended t v w.cells.now bs w.one_cell_an_attribute c.in_ok-fields.ensures.1 _ (read_to_the_end (step t v w.cells.now) (reading (step t v w.cells.now) 0 begun 0 bs) bs _ _ c.loop-raw.invariant c.in-None.ensures.steps.1)
