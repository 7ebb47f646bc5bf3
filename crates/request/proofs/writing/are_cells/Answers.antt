use Rattle.std.proofs.Common.{is_some, ap, ◌∙◌}
use Rattle.vocabulary.specs.Grid.{number_if}
use Rattle.request.proofs.Piecewise.{numbered}
use Rattle.request.proofs.writing.are_cells.Goals as goal

pub returns : goal.returns
returns c =
    let cells = c.args.cells.now in
    c.is_some.ensures ∙ ap is_some (c.number.ensures ∙ ap (λ ns. number_if ns cells) c.shape.ensures) ∙ numbered _ cells
