use Rattle.std.proofs.Common.{sym, ◌∙◌, arith}
use Rattle.vocabulary.specs.Record.{attributes_of}
use Rattle.vocabulary.proofs.Known.{attribute_below}
use Rattle.request.proofs.given.Given.take_in.Goals as goal

pub give-requires : goal.give-requires
give-requires c =
    let below = attribute_below (attributes_of c.args.vocabulary.now) _ _ (sym c.in_ok-i-in-Choice.ensures.ok_part ∙ c.find.ensures) in
    omega arith

pub give-requires-in-Measure : goal.give-requires-in-Measure
give-requires-in-Measure c =
    let below = attribute_below (attributes_of c.args.vocabulary.now) _ _ (sym c.in_ok-i-in-Measure.ensures.ok_part ∙ c.find-in-Measure.ensures) in
    omega arith
