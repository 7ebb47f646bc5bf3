use Rattle.std.proofs.Common.{length, arith}
use Rattle.vocabulary.specs.Record.{attributes_of}
use Rattle.policy.proofs.Seeing.{found_below}
use Rattle.policy.proofs.walk.Walk.attribute.Goals as goal

pub returns-clause-has_a_cell : goal.returns-clause-has_a_cell
returns-clause-has_a_cell g c =
    let w = c.args.self.now in
    let cells = w.one_cell_an_attribute in
    found_below (attributes_of w.vocabulary.now) c.args.name.now (length w.cells.now) (omega arith) _ _ _ c.ok_or.ensures.value c.find.ensures
