use Rattle.std.proofs.Common.{◌∙◌, rules}
use borrow.Author.Tests.{tests}
use Rattle.std.proofs.lemmas.Iterator.{YieldsList-from_slice}
use Rattle.std.proofs.lemmas.Iterator.Search.{position_from_yields_List}
use Rattle.vocabulary.specs.Lookup.{same_number}
use Rattle.vocabulary.proofs.Spans.{cut_stands}
use Rattle.vocabulary.proofs.record.lookup.cut_place.Goals as goal

pub returns : goal.returns
returns c =
    position_from_yields_List (λ z. same_number c.args.x z) _ _ _ c.position.ensures.ran (YieldsList-from_slice c.args.cuts.now (cc)) (λ x b q k. search (rules, tests))
    ∙ cut_stands c.args.x c.args.cuts.now
