use Rattle.std.proofs.Common.{ℕ, ◌*◌, ◌≤◌, sym, ap, ◌∙◌, subst}
use Rattle.vocabulary.specs.Grid.{grid}
use Rattle.vocabulary.specs.Counted.{counts_in}
use Rattle.vocabulary.proofs.Pushed.{size_push}
use Rattle.vocabulary.proofs.attributes.Attributes.push.Goals as goal

pub invariant_of-self : goal.invariant_of-self
invariant_of-self c =
    let v = c.args.self.now in
    let cells = c.cells.ensures.number_of_cells in
    record {
      sized = size_push _ c.args.attribute v.size _ v.sized cells ∙ ap (λ xs. grid (counts_in xs)) (sym c.add.ensures);
      small = subst (λ (k : ℕ). v.size * k ≤ 4096) (sym cells) c.requires.grid_still_fits;
    }
