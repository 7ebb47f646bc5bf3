use Rattle.std.proofs.Common.{ap, ◌∙◌, arith, rules}
use borrow.Author.Tests.{tests}
use Rattle.std.proofs.lemmas.Iterator.{YieldsList-from_range}
use Rattle.std.proofs.lemmas.Iterator.Consumers.{YieldsList-from_filter, count_from_yields_List}
use Rattle.std.proofs.lemmas.List.Sums.{length-filter}
use Rattle.vocabulary.specs.Grid.{grid}
use Rattle.vocabulary.specs.Record.{attributes_of}
use Rattle.decision.specs.Differing.{decision_at, differ_at, how_many_differ}
use Rattle.decision.proofs.Counted.{counted_in_range}
use Rattle.decision.proofs.differing.how_many_differ.Goals as goal

pub returns : goal.returns
returns c =
    let v = attributes_of c.args.vocabulary.now in
    let d = decision_at v c.args.first.now in
    let e = decision_at v c.args.second.now in
    count_from_yields_List c.filter.result c.count.result c.count.ensures.ran
    (YieldsList-from_filter _ (differ_at d e) (YieldsList-from_range 0 c.size.result c.size.result c.filter.ensures.source (omega arith)) c.filter.ensures.closure (λ x b q k. search (rules, tests)))
    ∙ length-filter (differ_at d e) _
    ∙ counted_in_range d e c.size.result
    ∙ ap (how_many_differ d e) (c.size.ensures.product_of_the_counts ∙ ap grid c.shape.ensures)
