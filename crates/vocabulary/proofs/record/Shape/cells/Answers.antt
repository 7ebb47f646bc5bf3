use Rattle.std.proofs.Common.{◌≡◌, ℕ, ◌+◌, ◌/◌, ◌%◌, ◌<◌, ◌++◌, length, get_or, drop, sym, ap, ◌∙◌, subst, mod-lt, arith, length-append}
use Rattle.vocabulary.specs.Grid.{cells_at}
use Rattle.vocabulary.specs.Record.{counts_of}
use Rattle.vocabulary.proofs.Walked.{counts_are_narrow, size_more, size_positive, cell_below, cells_more}
use Rattle.vocabulary.proofs.record.Shape.cells.Goals as goal

pub overflow_cast-rest : goal.overflow_cast-rest
overflow_cast-rest c =
    let ns = counts_of c.args.self.now in
    let i = c.loop-count.count-index in
    let inside : i < length ns = subst (λ x. i < length x) c.counts-count-items.ensures c.loop-count-test.true in
    let is : c.from-size.result ≡ get_or ns i 0 = c.from-size.ensures ∙ ap (λ x. get_or x i 0) c.counts-count-items.ensures in
    let below = cell_below ns i c.loop-count.rest c.loop-count.size c.from-size.result inside is c.loop-count.invariant.grid_of_the_rest c.loop-count.invariant.rest_within in
    let narrow = counts_are_narrow c.args.self.now i in
    record { fits = omega arith }

pub loop-count-preserved : goal.loop-count-preserved
loop-count-preserved c =
    let ns = counts_of c.args.self.now in
    let i = c.loop-count.count-index in
    let inside : i < length ns = subst (λ x. i < length x) c.counts-count-items.ensures c.loop-count-test.true in
    let is : c.from-size.result ≡ get_or ns i 0 = c.from-size.ensures ∙ ap (λ x. get_or x i 0) c.counts-count-items.ensures in
    let grids = c.loop-count.invariant.grid_of_the_rest in
    let within = c.loop-count.invariant.rest_within in
    record {
      in_the_grid = c.loop-count.invariant.in_the_grid;
      grid_of_the_rest = size_more ns i c.loop-count.rest c.loop-count.size c.from-size.result inside is grids within;
      rest_within = mod-lt _ (size_positive ns i c.loop-count.rest c.loop-count.size c.from-size.result inside is grids within);
      cells_so_far = cells_more ns i c.loop-count.rest c.loop-count.size c.from-size.result inside is grids within _ _ c.loop-count.invariant.cells_so_far
          ∙ ap (λ x. x ++ cells_at (drop (i + 1) ns) (c.loop-count.rest % (c.loop-count.size / c.from-size.result))) (sym c.add.ensures);
      as_many_cells = ap length c.add.ensures ∙ length-append _ _ ∙ ap (λ (n : ℕ). n + 1) c.loop-count.invariant.as_many_cells;
    }
