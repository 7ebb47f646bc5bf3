use Rattle.std.proofs.Common.{◌∙◌}
use Rattle.vocabulary.specs.Record.{attributes_of}
use Rattle.policy.proofs.Consulting.{cells_found, as_many, answers}
use Rattle.policy.proofs.walking.decide_number.Goals as goal

pub invariant_of-walk : goal.invariant_of-walk
invariant_of-walk g c =
    let v = attributes_of c.args.vocabulary.now in
    record { one_cell_an_attribute = as_many v _ _ (cells_found v _ _ _ c.args.number c.shape-shape.ensures c.as_slice.ensures c.in-Some.ensures) }

pub returns : goal.returns
returns g c =
    let v = attributes_of c.args.vocabulary.now in
    let t = g.A.Algebra.tables c.args.algebra.now in
    c.unwrap_or.ensures
    ∙ answers t v c.args.sheet.now _ _ (cells_found v _ _ _ c.args.number c.shape-shape.ensures c.as_slice.ensures c.in-Some.ensures) _ c.decide.ensures
