use Rattle.std.proofs.Common.{ℕ, List, ◌∙◌, rules}
use borrow.Author.Tests.{tests}
use Rattle.std.proofs.lemmas.Iterator.{YieldsList-from_slice}
use Rattle.std.proofs.lemmas.Iterator.Search.{position_from_yields_List}
use Rattle.fields.specs.Words.{equal}
use Rattle.vocabulary.specs.Parts.{name_at}
use Rattle.vocabulary.proofs.Spans.{name_stands}
use Rattle.vocabulary.proofs.names.find.Given as given
use Rattle.vocabulary.proofs.names.find.Goals as goal

abbrev called : (g : given.Over) → List ℕ → g.row.T.Denot → List ℕ
called g bs x = name_at bs (g.T.Named.spanned x)

pub returns : goal.returns
returns g c =
    position_from_yields_List (λ x. equal c.args.name.now (called g c.args.sheet.now x)) _ _ _ c.position.ensures.ran (YieldsList-from_slice c.args.items.now (cc)) (λ x b q k. search (rules, tests))
    ∙ name_stands (called g c.args.sheet.now) c.args.name.now c.args.items.now
